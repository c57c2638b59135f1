-- From line to line through a whole day.
use Rattle.std.proofs.Common.{◌≡◌, ℕ, ◌≤◌, List, [], ◌∷◌, ◌++◌, length, sym, ap, subst, arith, length-append}
use Rattle.market.specs.Levels.{Levels}
use Rattle.days.specs.History.{Event, New}
use Rattle.days.specs.Laws.{Lawful}
use Rattle.days.proofs.Days as days
use Rattle.service.specs.Served.{Through, Served}
use Rattle.session.specs.Turns.{Turn, Ran}
use Rattle.session.specs.Views.{View}

-- the calls of a day, from a new gate on
pub record Called (lines : List (List ℕ)) (y : View) : Type 0 where
  calls : List Event
  few : length calls ≤ length lines
  lawful : Lawful calls y.gate

called : (x y : View) (lines : List (List ℕ)) → New x.gate → Through Turn x lines y → Called lines y
called x y [] new same =
    let still = subst (λ v. New v.gate) (sym same) new in
    record { calls = []; few = omega arith; lawful = record { leads = still; laws = days.laws [] y.gate still } }
called x y (line ∷ lines) new (u, before, here) =
    let so = called x u lines new before in
    let on = here.law so.calls so.lawful.leads in
    record { calls = on.calls ++ so.calls; few = simp length-append (omega (arith, on.few, so.few)); lawful = on.lawful }

module _ {S : Type 0} (see : S → View) where
  turns : (s t : S) (lines : List (List ℕ)) → Through (λ a line b. Turn (see a) line (see b)) s lines t → Through Turn (see s) lines (see t)
  turns s t [] same = ap see same
  turns s t (line ∷ lines) (u, before, here) = (see u, turns s u lines before, here)

  pub ran : (levels : Levels) (s t : S) → New (see s).gate → (see s).gate.tape_room ≡ 4096 → (see s).gate.notice_room ≡ 64 → (see s).levels ≡ levels
      → Served (λ a line b. Turn (see a) line (see b)) s t → Ran levels
  ran levels s t new tape notices market served =
      let through = turns s t served.lines served.through in
      let day = called (see s) (see t) served.lines new through in
      record {
        first = see s;
        last = see t;
        new = new;
        tape = tape;
        notices = notices;
        market = market;
        lines = served.lines;
        came = served.came;
        turns = through;
        calls = day.calls;
        few = day.few;
        lawful = day.lawful;
      }
