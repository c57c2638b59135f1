-- Every day keeps the laws: an induction over its calls.
use Rattle.std.proofs.Common.{◌≡◌, ◌+◌, List, [], ◌∷◌, ◌++◌, sym, refl, ap, ◌∙◌, arith}
use Rattle.std.specs.List.{AllByRecursion}
use Rattle.market.specs.Levels.{Levels}
use Rattle.book.specs.Resting.{one, resting_up_to}
use Rattle.days.specs.declared.call.Call.{Call}
use Rattle.days.specs.Verdicts.{Verdict}
use Rattle.days.specs.State.{State, Line}
use Rattle.days.specs.History.{Event, Step, New, Leads}
use Rattle.days.specs.Laws.{EntryKnown, Each, LimitHeld, PreventionHeld, units_on, cancelled, written, Owned, Takes, Laws, Lawful}
use Rattle.orders.proofs.Checked.{some_none}
use Rattle.days.proofs.Protect.{as_event}
use Rattle.days.proofs.Chain.{Core}
use Rattle.days.proofs.Calls.{open_is, step_said}

new_core : (s : State) → New s → Core [] s
new_core s new = record {
  series = new.series;
  notices = new.notices;
  orders = record {
    known = λ n o e. absurd (some_none o (sym e ∙ new.order n));
    resting = λ n o e. refl;
    fresh = λ n lt. record { absent = new.order n; unfilled = ap (λ l. units_on l n) new.tape; uncancelled = refl };
    low = λ n x a. absurd a;
    once = λ n x y a b. absurd a;
    balance = λ n x a. absurd a;
  };
  closed = λ c n. new.order n;
  counted = new.count ∙ sym (ap (resting_up_to s.order) new.last ∙ ap one (new.order 0));
  few = omega (arith, new.count);
}

record Kept (h : List Event) (s : State) : Type 0 where
  core : Core h s
  known : Each EntryKnown h
  limits : Each LimitHeld h
  prevention : Each PreventionHeld h
  tape : s.tape ≡ written h
  owned : Each (λ g e. AllByRecursion (Owned g) e.fills) h
  takes : Each (λ g e. Takes e.market e.fills e.left) h

kept : (h : List Event) (s : State) → Leads h s → Kept h s
kept [] s new = record { core = new_core s new; known = tt; limits = tt; prevention = tt; tape = new.tape; owned = tt; takes = tt }
kept (e ∷ h) t (before, step) =
    let k = kept h e.before before in
    let said = step_said h e.before k.core e.reply e.market e.left e.fills t e.call step in
    record {
      core = said.core;
      known = (said.guarded.known, k.known);
      limits = (said.guarded.limit, k.limits);
      prevention = (said.guarded.prevention, k.prevention);
      tape = said.tape ∙ ap (λ l. l ++ e.fills) k.tape;
      owned = (said.owned, k.owned);
      takes = (said.takes, k.takes);
    }

pub laws : (h : List Event) (s : State) → Leads h s → Laws h s
laws h s l =
    let k = kept h s l in
    record {
      known = k.known;
      limits = k.limits;
      prevention = k.prevention;
      conserved = λ n x a. k.core.orders.balance n x a ∙ ap (λ r. units_on s.tape n + (r + cancelled h n)) (sym (open_is h s k.core n));
      few = omega (arith, k.core.counted, k.core.few);
      numbered = λ n lt. (k.core.orders.fresh n lt).absent;
      tape = k.tape;
      owned = k.owned;
      takes = k.takes;
    }

-- one call more
pub goes_on : (h : List Event) (s : State) (m : Levels) (c : Call) (a : Verdict) (fs : List Line) (t : State) (m' : Levels) → Leads h s → Step s m c a fs t m' → Lawful (as_event c a s m fs m' ∷ h) t
goes_on h s m c a fs t m' l d = record { leads = (l, d); laws = laws (as_event c a s m fs m' ∷ h) t (l, d) }
