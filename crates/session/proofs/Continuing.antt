-- How a session goes on with the day of its gate.
use Rattle.std.proofs.Common.{◌≡◌, [], ◌∷◌, sym, refl, subst, arith}
use Rattle.days.specs.declared.call.Call.{Call}
use Rattle.days.specs.Verdicts.{Verdict}
use Rattle.days.specs.History.{Leads, event}
use Rattle.days.specs.Laws.{LeadsOn}
use Rattle.days.proofs.Days as days
use Rattle.session.specs.Days.{HandsOn}
use Rattle.session.specs.Views.{View}

-- by a call
pub by_call : (x y : View) (c : Call) (r : Verdict) → LeadsOn c r x.gate x.levels y.gate y.levels → HandsOn x y
by_call x y c r on h leads =
    record {
      calls = event c r x.gate x.levels y.gate y.levels ∷ [];
      few = omega arith;
      here = ((refl, refl), tt);
      lawful = on.keeps h leads;
    }

-- with no call
pub as_it_was : (x y : View) → y.gate ≡ x.gate → HandsOn x y
as_it_was x y same h leads =
    let still = subst (Leads h) (sym same) leads in
    record { calls = []; few = omega arith; here = tt; lawful = record { leads = still; laws = days.laws h y.gate still } }
