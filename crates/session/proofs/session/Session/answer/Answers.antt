use Rattle.std.proofs.Common.{refl}
use Rattle.session.proofs.Continuing.{as_it_was}
use Rattle.session.proofs.Doing.{taken_in}
use Rattle.session.proofs.session.Session.answer.Goals as goal

pub returns-then-area-lt-CAPACITY : goal.returns-then-area-lt-CAPACITY
returns-then-area-lt-CAPACITY g c =
    record { answer = (record { fault = refl; small = c.if-area-lt-CAPACITY.true; same = refl }, refl); law = as_it_was _ _ refl }

pub returns : goal.returns
returns g c =
    record {
      answer = taken_in c.write.result _ _ _ _ _ _ _ _ c.if-area-lt-CAPACITY.false c.final_answer.ensures c.respond.ensures.does c.write.ensures;
      law = c.respond.ensures.law;
    }
