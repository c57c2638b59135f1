use Rattle.std.proofs.Common.{Err, refl, ap, ◌∙◌}
use Rattle.std.proofs.lemmas.Result.{err_from_is_err_and}
use Rattle.session.specs.Answering.{told}
use Rattle.session.proofs.Continuing.{as_it_was}
use Rattle.session.proofs.session.Session.respond.Goals as goal

pub returns-in_err-command : goal.returns-in_err-command
returns-in_err-command g c =
    let p = err_from_is_err_and c.from_residual.result c.from_residual.ensures.1 in
    let read = c.in_err-command.ensures in
    record {
      does =
          record {
            read = Err c.in_err-command.field-0.0;
            answered = read.answer;
            cut = read.cut;
            done = ((refl, refl), ap told (p.1 ∙ ap Err p.2));
          };
      law = as_it_was _ _ refl;
    }
