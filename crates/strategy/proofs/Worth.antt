-- What the long forms are worth at settlement: but for all bought, from 0 to the width, and both are reached.
use Rattle.std.proofs.Common.{◌≡◌, ℕ, ◌+◌, List, [], ◌∷◌, ℤ, pos, ◌+ℤ◌, ◌≤ℤ◌, inl, inr, arith}
use Rattle.std.proofs.lemmas.Int.{ints}
use Rattle.strategy.specs.declared.leg.Kind.{Kind}
use Rattle.strategy.specs.declared.leg.Kind.TheVariants.{Call, Put}
use Rattle.strategy.specs.declared.leg.Leg.{Leg}
use Rattle.strategy.specs.Reordering.{TakenOut, Reordered}
use Rattle.strategy.specs.Forms.{vertical, calendar, butterfly, box, IsVertical, IsCalendar, IsButterfly, IsBox}
use Rattle.strategy.specs.Payoff.{signed, signed_sum, leg_paid, payoff}

swap_sum : (a b c : ℤ) → a +ℤ (b +ℤ c) ≡ b +ℤ (a +ℤ c)
swap_sum a b c = omega (arith, ints)

-- a sum over the legs is the same in any order
module _ (f : Leg → ℕ) where
  sum_out : (x : Leg) (ys rest : List Leg) → TakenOut x ys rest → signed_sum f ys ≡ signed x.side (f x) +ℤ signed_sum f rest
  unfolding TakenOut
  sum_out x [] rest t = absurd t
  sum_out x (y ∷ ys) rest (inl (e, r)) = rw (e, r)
  sum_out x (y ∷ ys) rest (inr (less, t, r)) =
      rw (r, sum_out x ys less t) (swap_sum (signed y.side (f y)) (signed x.side (f x)) (signed_sum f less))

  pub sum_reordered : (xs ys : List Leg) → Reordered xs ys → signed_sum f xs ≡ signed_sum f ys
  unfolding Reordered
  sum_reordered [] ys r = rw r
  sum_reordered (x ∷ xs) ys (rest, t, r) = rw (sum_out x ys rest t, sum_reordered xs rest r)

-- a value from 0 to the width
pub record Between (width : ℕ) (v : ℤ) : Type 0 where
  pub least : pos 0 ≤ℤ v
  pub most : v ≤ℤ pos width

-- the legs pay from 0 to the width, and the width at some settlement
pub record Worth (legs : List Leg) (width : ℕ) : Type 0 where
  pub within : (s : ℕ) → Between width (payoff legs s)
  pub at : ℕ
  pub reached : payoff legs at ≡ pos width

module _ (u low high e width : ℕ) (apart : low + width ≡ high) where
  vertical_form : (k : Kind) → Worth (vertical u k low high e) width
  vertical_form Call =
      record {
        within = λ s. record { least = omega (arith, ints); most = omega (arith, ints) };
        at = high;
        reached = omega (arith, ints);
      }
  vertical_form Put =
      record {
        within = λ s. record { least = omega (arith, ints); most = omega (arith, ints) };
        at = low;
        reached = omega (arith, ints);
      }

  box_form : Worth (box u low high e) width
  box_form =
      record {
        within = λ s. record { least = omega (arith, ints); most = omega (arith, ints) };
        at = low;
        reached = omega (arith, ints);
      }

module _ (u low middle high e width : ℕ) (below : low + width ≡ middle) (above : middle + width ≡ high) where
  butterfly_form : (k : Kind) → Worth (butterfly u k low middle high e) width
  butterfly_form Call =
      record {
        within = λ s. record { least = omega (arith, ints); most = omega (arith, ints) };
        at = middle;
        reached = omega (arith, ints);
      }
  butterfly_form Put =
      record {
        within = λ s. record { least = omega (arith, ints); most = omega (arith, ints) };
        at = middle;
        reached = omega (arith, ints);
      }

-- both legs pay the same
calendar_form : (u : ℕ) (k : Kind) (strike near later : ℕ) → Worth (calendar u k strike near later) 0
calendar_form u k strike near later =
    record {
      within = λ s. record { least = omega (arith, ints); most = omega (arith, ints) };
      at = 0;
      reached = omega (arith, ints);
    }

reordered : (legs form : List Leg) (width : ℕ) → Reordered legs form → Worth form width → Worth legs width
reordered legs form width r w =
    record {
      within = λ s. rw (sum_reordered (leg_paid s) legs form r) (w.within s);
      at = w.at;
      reached = rw (sum_reordered (leg_paid w.at) legs form r) w.reached;
    }

module _ (w : ℕ) (legs : List Leg) where
  pub vertical_worth : IsVertical w legs → Worth legs w
  vertical_worth v =
      reordered legs (vertical v.u v.k v.low v.high v.e) w v.legs_are (vertical_form v.u v.low v.high v.e w v.apart v.k)

  pub calendar_worth : IsCalendar w legs → Worth legs 0
  calendar_worth v =
      reordered legs (calendar v.u v.k v.strike v.near v.later) 0 v.legs_are (calendar_form v.u v.k v.strike v.near v.later)

  pub butterfly_worth : IsButterfly w legs → Worth legs w
  butterfly_worth v =
      reordered legs (butterfly v.u v.k v.low v.middle v.high v.e) w v.legs_are (butterfly_form v.u v.low v.middle v.high v.e w v.below v.above v.k)

  pub box_worth : IsBox w legs → Worth legs w
  box_worth v = reordered legs (box v.u v.low v.high v.e) w v.legs_are (box_form v.u v.low v.high v.e w v.apart)
