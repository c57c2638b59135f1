-- What a sweep writes, by a test of the numbers given.
use Rattle.std.proofs.Common.{◌≡◌, ℕ, zero, suc, ◌+◌, ◌<◌, Bool, true, false, not, ◌&&◌, leb, List, [], ◌∷◌, None, Ok, Err, Result, sym, refl, ap, ◌∙◌, subst, ⊎_elim, arith}
use Rattle.std.proofs.lemmas.Bool.{and_parts, both_ways, cases_eq, cases_lt}
use Rattle.strategy.specs.declared.class.Strategy.{Strategy}
use Rattle.market.specs.Levels.{Levels}
use Rattle.orders.specs.declared.outcome.Outcome.TheVariants.{Done}
use Rattle.orders.specs.declared.fault.GateFault.{GateFault}
use Rattle.orders.specs.declared.fault.GateFault.TheVariants as gate
use Rattle.orders.specs.declared.records.OrderTerms.{OrderTerms}
use Rattle.orders.specs.declared.records.Channel.{Channel}
use Rattle.orders.specs.declared.records.Channel.TheVariants.{Plain, Exempt}
use Rattle.orders.specs.Checks.{map_ok}
use Rattle.orders.specs.TurnedTerms.{Terms, turned_terms}
use Rattle.book.specs.Resting.{reduced}
use Rattle.book.proofs.Looks.{put_here, put_other}
use Rattle.days.specs.Verdicts.{and_then}
use Rattle.days.specs.State.{State, Line, tape_full, in_force}
use Rattle.days.specs.Entries.{Placed, placed, price_check, numbering, entering, kept_in, entered_in}
use Rattle.days.specs.Works.{matched, when_resting, candidate, filled_in, filled_from, Idle, Sweeps}
use Rattle.days.specs.History.{swept, Swept}
use Rattle.orders.proofs.Checked.{err_ok, same_ok, check_ok}
use Rattle.days.proofs.Checked.{fault_ok}
use Rattle.worked.specs.Rows.{entered, gate_after, all_entered}

-- No order has a number above the last given.
abbrev pub Fresh : State → Type 0
Fresh s = (k : ℕ) → s.last < k → s.order k ≡ None

module _ (s : State) (n : ℕ) (h : Fresh s) where
  kept_fresh : (t : Terms) (units : ℕ) (c : Channel) → numbering s c ≡ Ok n → Fresh (kept_in s n t units c)
  kept_fresh t units Exempt e = h
  kept_fresh t units Plain e =
      let room = check_ok (not (leb 64 s.count)) gate.BookFull _ n e in
      let numbers = check_ok (not (leb 50000 s.last)) gate.NumbersUsedUp _ n room.1 in
      let next : s.last + 1 ≡ n = same_ok (s.last + 1) n numbers.1 in
      λ k lt. put_other s.order n _ k (λ same. omega arith) ∙ h k (omega arith)

module _ (s : State) (h : Fresh s) where
  numbered_fresh : (p : Placed) (y : Strategy) (r : Result ℕ GateFault) → entering s p y ≡ r → Fresh (gate_after s (map_ok (λ n. (n, entered_in s n p y)) r))
  numbered_fresh p y (Ok n) e =
      kept_fresh s n h (turned_terms y p.order) p.order.quantity p.order.channel
      (fault_ok (price_check p (turned_terms y p.order) (in_force s.notices)) (numbering s p.order.channel) n e).1
  numbered_fresh p y (Err f) e = h

  placed_fresh : (y : Strategy) (r : Result Placed GateFault) → Fresh (gate_after s (and_then r (λ p. map_ok (λ n. (n, entered_in s n p y)) (entering s p y))))
  placed_fresh y (Ok p) = numbered_fresh p y (entering s p y) refl
  placed_fresh y (Err f) = h

  filled_fresh : (f : Line) → Fresh (filled_in s f)
  filled_fresh f k lt =
      ⊎_elim
      (λ here. put_here s.order f.number _ k here ∙ ap (λ v. reduced v f.units) (h f.number (omega arith)))
      (λ ne. put_other s.order f.number _ k ne ∙ h k lt)
      (cases_eq f.number k)

pub entered_fresh : (s : State) (os : List (OrderTerms × Strategy)) → Fresh s → Fresh (all_entered s os)
entered_fresh s [] h = h
entered_fresh s ((o, y) ∷ os) h = entered_fresh (gate_after s (entered s (o, y))) os (placed_fresh s h y (placed s o))

-- A test of the numbers given

abbrev refuses : Result Line GateFault → Bool
refuses (Ok f) = false
refuses (Err f) = true

never_fills : (r : Result Line GateFault) → refuses r ≡ true → (f : Line) → r ≡ Ok f → ⊥
never_fills (Ok g) e f is = both_ways false refl e
never_fills (Err g) e f is = err_ok g f is

-- no order below n would fill
abbrev pub idle_below : State → Levels → ℕ → Bool
idle_below s m zero = true
idle_below s m (suc n) = refuses (candidate s m n) && idle_below s m n

module _ (s : State) (m : Levels) where
  idle_below_lem : (n : ℕ) → idle_below s m n ≡ true → (k : ℕ) → k < n → Idle s m k
  idle_below_lem zero e k lt = absurd (omega arith)
  idle_below_lem (suc n) e k lt =
      let p = and_parts (refuses (candidate s m n)) (idle_below s m n) e in
      ⊎_elim
      (λ at. subst (Idle s m) (sym at) (never_fills (candidate s m n) p.0))
      (λ ne. idle_below_lem n p.1 k (omega arith))
      (cases_eq k n)

  idle : Fresh s → idle_below s m (s.last + 1) ≡ true → (n : ℕ) → Idle s m n
  idle h e n =
      ⊎_elim
      (λ lt. idle_below_lem (s.last + 1) e n lt)
      (λ ge f is. err_ok gate.NotResting f (sym (ap (λ v. when_resting v (matched s m)) (h n (omega arith))) ∙ is))
      (cases_lt n (s.last + 1))

-- A sweep, line by line

abbrev pub gate_then : State → List Line → State
gate_then s [] = s
gate_then s (f ∷ fs) = gate_then (filled_in s f) fs

abbrev pub market_then : State → Levels → List Line → Levels
market_then s m [] = m
market_then s m (f ∷ fs) = market_then (filled_in s f) (filled_from s m f) fs

-- each line is of the lowest order that would fill, and at the end none would
abbrev pub Writes : State → Levels → List Line → Type 0
Writes s m [] = idle_below s m (s.last + 1) ≡ true
Writes s m (f ∷ fs) =
    (candidate s m f.number ≡ Ok f) × (idle_below s m f.number ≡ true) × (tape_full s ≡ false) × Writes (filled_in s f) (filled_from s m f) fs

writes_lines : (s : State) (m : Levels) (fs : List Line) → Writes s m fs → Sweeps s m fs (gate_then s fs) (market_then s m fs)
writes_lines s m [] e = (refl, refl)
writes_lines s m (f ∷ fs) (would, lowest, room, rest) = (would, idle_below_lem s m f.number lowest, room, writes_lines (filled_in s f) (filled_from s m f) fs rest)

writes_all : (s : State) (m : Levels) (fs : List Line) → Fresh s → Writes s m fs → (n : ℕ) → Idle (gate_then s fs) (market_then s m fs) n
writes_all s m [] h e = idle s m h e
writes_all s m (f ∷ fs) h (would, lowest, room, rest) = writes_all (filled_in s f) (filled_from s m f) fs (filled_fresh s h f) rest

pub sweeps : (s : State) (m : Levels) (fs : List Line) → Fresh s → Writes s m fs → Swept s m (swept fs Done) fs (gate_then s fs) (market_then s m fs)
sweeps s m fs h w = (Done, refl, writes_lines s m fs w, writes_all s m fs h w)
