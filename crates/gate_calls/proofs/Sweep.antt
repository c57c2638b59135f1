-- A search for the lowest-numbered order that would fill, and the lines of a sweep.
use Rattle.std.proofs.Common.{◌≡◌, ℕ, ◌+◌, ◌*◌, ◌<◌, ◌≤◌, min, false, List, [], ◌∷◌, ◌++◌, length, Some, None, Ok, Err, sym, refl, ap, ◌∙◌, subst, ⊎_elim, arith}
use Rattle.std.proofs.lemmas.List.{append-nil, append_assoc, length_push, length-append}
use Rattle.std.proofs.lemmas.Bool.{cases_lt, cases_order, leb-false}
use Rattle.market.specs.Levels.{Levels}
use Rattle.orders.specs.declared.fault.GateFault.{GateFault}
use Rattle.orders.specs.declared.fault.GateFault.TheVariants.{NotResting}
use Rattle.orders.specs.Checks.{map_ok}
use Rattle.orders.proofs.Checked.{err_ok}
use Rattle.book.specs.declared.order.RestingOrder.{RestingOrder}
use Rattle.book.specs.Resting.{NextOrder, resting_of}
use Rattle.fills.specs.declared.fill.Fill.{Fill}
use Rattle.fills.specs.Fillings.{filling_of}
use Rattle.days.specs.State.{State, Line, tape_full}
use Rattle.days.specs.Works.{line_for, matched, when_resting, candidate, filled_in, filled_from, Idle, Sweeps, volume}
use Rattle.gate_calls.specs.Promises.{quoted_for, line_with, Matches, Settles}

module _ (s : State) (m : Levels) where
  pub idle_none : (k : ℕ) → s.order k ≡ None → Idle s m k
  idle_none k none f e = err_ok NotResting f (sym (ap (λ v. when_resting v (matched s m)) none) ∙ e)

  idle_refused : (o : RestingOrder) (r : GateFault) → s.order o.number ≡ Some (resting_of o) → quoted_for s m o ≡ Err r → Idle s m o.number
  idle_refused o r held stop f e =
      err_ok r f (sym (ap (λ v. when_resting v (matched s m)) held ∙ ap (map_ok (line_for (resting_of o) (length s.notices))) stop) ∙ e)

  -- an order that fits is a candidate, with its line
  pub is_candidate : (o : RestingOrder) (f : Fill) → s.order o.number ≡ Some (resting_of o) → quoted_for s m o ≡ Ok (filling_of f) → candidate s m o.number ≡ Ok (line_with s o f)
  is_candidate o f held fits = ap (λ v. when_resting v (matched s m)) held ∙ ap (map_ok (line_for (resting_of o) (length s.notices))) fits

  -- one order more that would not fill
  pub idle_more : (n : ℕ) (o : RestingOrder) (r : GateFault) → ((k : ℕ) → k ≤ n → Idle s m k) → NextOrder s.order n (resting_of o) → quoted_for s m o ≡ Err r → (k : ℕ) → k ≤ o.number → Idle s m k
  idle_more n o r below next stop k le =
      ⊎_elim
      (λ same. subst (Idle s m) (sym same) (idle_refused o r next.rests stop))
      (λ other. ⊎_elim
      (λ lt. ⊎_elim (λ past. idle_none k (next.lowest k past lt)) (λ low. below k low) (cases_lt n k))
      (λ gt. absurd (omega arith))
      other)
      (cases_order k o.number)

  pub idle_all : (n : ℕ) → ((k : ℕ) → k ≤ n → Idle s m k) → ((k : ℕ) → n < k → s.order k ≡ None) → (k : ℕ) → Idle s m k
  idle_all n below none k = ⊎_elim (λ past. idle_none k (none k past)) (λ low. below k low) (cases_lt n k)

  pub first_found : (n : ℕ) (o : RestingOrder) (f : Fill) → ((k : ℕ) → k ≤ n → Idle s m k) → NextOrder s.order n (resting_of o) → quoted_for s m o ≡ Ok (filling_of f) → Matches s m o f
  first_found n o f below next fits = record {
    held = next.rests;
    fits = fits;
    lowest = λ k lt. ⊎_elim (λ past. idle_none k (next.lowest k past lt)) (λ low. below k low) (cases_lt n k);
  }

-- what a sweep has done so far
pub record Sofar (s : State) (m : Levels) (lines units : ℕ) (t : State) (m' : Levels) : Type 0 where
  pub fills : List Line
  pub tape : t.tape ≡ s.tape ++ fills
  pub count : lines ≡ length fills
  pub sum : units ≡ volume fills
  pub small : units ≤ 65535 * lines
  pub sweeps : Sweeps s m fills t m'

pub none_yet : (s : State) (m : Levels) → Sofar s m 0 0 s m
none_yet s m = record { fills = []; tape = sym (append-nil s.tape); count = refl; sum = refl; small = omega arith; sweeps = (refl, refl) }

volume_more : (fs : List Line) (f : Line) → volume (fs ++ f ∷ []) ≡ volume fs + f.units
volume_more [] f = omega arith
volume_more (g ∷ gs) f = omega (arith, volume_more gs f)

-- one line more
sweeps_more : (s : State) (m : Levels) (fs : List Line) (t : State) (m' : Levels) (f : Line) (u : State) (n : Levels)
    → Sweeps s m fs t m' → candidate t m' f.number ≡ Ok f → ((k : ℕ) → k < f.number → Idle t m' k) → tape_full t ≡ false → Settles t m' f u n → Sweeps s m (fs ++ f ∷ []) u n
sweeps_more s m [] t m' f u n (same, still) fits low room done =
    subst (λ x. Sweeps x m (f ∷ []) u n) same (subst (λ y. Sweeps t y (f ∷ []) u n) still (fits, low, room, done))
sweeps_more s m (g ∷ gs) t m' f u n (would, lowest, free, rest) fits low room done = (would, lowest, free, sweeps_more (filled_in s g) (filled_from s m g) gs t m' f u n rest fits low room done)

module _ (s : State) (m : Levels) (lines units : ℕ) (t : State) (m' : Levels) (h : Sofar s m lines units t m') where
  -- a tape with room has fewer lines than 4,096
  pub few : tape_full t ≡ false → lines < 4096
  few free = omega (arith, leb-false (min 4096 t.tape_room) (length t.tape) free, ap length h.tape, length-append s.tape h.fills, h.count)

  pub one_more : (o : RestingOrder) (f : Fill) (u : State) (n : Levels) (more : ℕ) → Matches t m' o f → tape_full t ≡ false → Settles t m' (line_with t o f) u n → more ≡ f.units → f.units < 65536
      → Sofar s m (lines + 1) (units + more) u n
  one_more o f u n more first room done same fits = record {
    fills = h.fills ++ line_with t o f ∷ [];
    tape = ap (λ (x : State). x.tape) done.0 ∙ ap (λ l. l ++ line_with t o f ∷ []) h.tape ∙ append_assoc s.tape h.fills (line_with t o f ∷ []);
    count = omega (arith, h.count, length_push h.fills (line_with t o f));
    sum = omega (arith, h.sum, volume_more h.fills (line_with t o f));
    small = omega (arith, h.small);
    sweeps = sweeps_more s m h.fills t m' (line_with t o f) u n h.sweeps (is_candidate t m' o f first.held first.fits) first.lowest room done;
  }
