-- The price verdicts, by the closing values of the legs.
use Rattle.std.proofs.Common.{◌≡◌, ℕ, Bool, true, false, cond, List, ℤ, pos, ◌+ℤ◌, neg_ℤ, ◌≤ℤ◌, ◌<ℤ◌, Some, None, Option, sym, refl, inl, inr, arith}
use lib.Signed.{lt_z}
use Rattle.std.proofs.lemmas.Int.{ints}
use Rattle.strategy.specs.declared.leg.Side.{Side}
use Rattle.strategy.specs.declared.leg.Side.TheVariants.{Buy, Sell}
use Rattle.strategy.specs.declared.leg.Leg.{Leg}
use Rattle.strategy.specs.declared.class.Class.{Class}
use Rattle.strategy.specs.declared.class.Class.TheVariants.{Bought, Vertical, Calendar, Butterfly, BoxSpread, Other}
use Rattle.strategy.specs.declared.price.Buffer.{Buffer}
use Rattle.strategy.specs.declared.price.Buffers.{Buffers}
use Rattle.strategy.specs.declared.price.Refusal.{Refusal}
use Rattle.strategy.specs.declared.price.Refusal.TheVariants.{BelowMinimum, AboveMaximum}
use Rattle.strategy.specs.Forms.{Long}
use Rattle.strategy.specs.Payoff.{ClosingValue}
use Rattle.strategy.specs.Prices.{maximum_buffer, lowest, highest, outside, beyond, limit_refusal, prevented_of, AllAbove, AllBelow, Exactly, LimitLaw, PreventionLaw, OutOfBand}
use Rattle.strategy.proofs.Worth.{Worth, Between, vertical_worth, butterfly_worth, box_worth}

lt_from : (a b : ℤ) → lt_z a b ≡ true → a <ℤ b
lt_from a b h = grind (arith, ints)

lt_to : (a b : ℤ) → a <ℤ b → lt_z a b ≡ true
lt_to a b h = grind (arith, ints)

not_lt : (a b : ℤ) → b ≤ℤ a → lt_z a b ≡ false
not_lt a b h = grind (arith, ints)

abbrev verdict : Bool → Bool → Option Refusal
verdict low high = cond low (Some BelowMinimum) (cond high (Some AboveMaximum) None)

verdict_low : (low high : Bool) → verdict low high ≡ Some BelowMinimum → low ≡ true
verdict_low true high e = refl
verdict_low false true e = cc
verdict_low false false e = cc

verdict_high : (low high : Bool) → verdict low high ≡ Some AboveMaximum → high ≡ true
verdict_high low true e = refl
verdict_high true false e = cc
verdict_high false false e = cc

module _ (legs : List Leg) (width : ℕ) (w : Worth legs width) where
  closing_between : (v : ℤ) → ClosingValue legs v → Between width v
  closing_between v (inl e) = rw e record { least = omega (arith, ints); most = omega (arith, ints) }
  closing_between v (inr (s, e)) = rw e (w.within s)

  above_from : (p : ℤ) (n : ℕ) → AllAbove legs p n → p <ℤ neg_ℤ (pos n)
  above_from p n h = let z : (p +ℤ pos n) <ℤ pos 0 = h (pos 0) (inl refl) in omega (arith, ints)

  above_to : (p : ℤ) (n : ℕ) → p <ℤ neg_ℤ (pos n) → AllAbove legs p n
  above_to p n h v c = let b : Between width v = closing_between v c in omega (arith, ints, b.least)

  below_from : (p : ℤ) (n : ℕ) → AllBelow legs p n → (pos width +ℤ pos n) <ℤ p
  below_from p n h = h (pos width) (inr (w.at, sym w.reached))

  below_to : (p : ℤ) (n : ℕ) → (pos width +ℤ pos n) <ℤ p → AllBelow legs p n
  below_to p n h v c = let b : Between width v = closing_between v c in omega (arith, ints, b.most)

  band_limits : (b : Buffer) (limit : ℤ) → Exactly (outside limit (Some (lowest b)) (Some (highest b width)) ≡ Some BelowMinimum) (AllAbove legs limit b.minimum) × Exactly (outside limit (Some (lowest b)) (Some (highest b width)) ≡ Some AboveMaximum) (AllBelow legs limit (maximum_buffer b width))
  band_limits b limit =
      let low : Bool = lt_z limit (lowest b) in
      let high : Bool = lt_z (highest b width) limit in (
        (
          λ e. above_to limit b.minimum (lt_from limit (lowest b) (verdict_low low high e)),
          λ h. rw (lt_to limit (lowest b) (above_from limit b.minimum h)),
        ),
        (
          λ e. below_to limit (maximum_buffer b width) (lt_from (highest b width) limit (verdict_high low high e)),
          λ h. let k : highest b width <ℤ limit = below_from limit (maximum_buffer b width) h in
              rw (not_lt limit (lowest b) (omega (arith, ints)), lt_to (highest b width) limit k),
        ),
      )

  band_prevents : (b : Buffer) (side : Side) (price : ℤ) → Exactly (beyond side price (Some (lowest b)) (Some (highest b width)) ≡ true) (OutOfBand side width legs price b)
  band_prevents b Buy price = (
    λ e. below_to price (maximum_buffer b width) (lt_from (highest b width) price e),
    λ h. lt_to (highest b width) price (below_from price (maximum_buffer b width) h),
  )
  band_prevents b Sell price = (
    λ e. above_to price b.minimum (lt_from price (lowest b) e),
    λ h. lt_to price (lowest b) (above_from price b.minimum h),
  )

pub limit_law : (c : Class) (w : ℕ) (legs turned : List Leg) (side : Side) (limit : ℤ) (b : Buffers) → Long c w turned → LimitLaw c w turned limit b (limit_refusal c w legs side limit b)
limit_law Bought w legs turned side limit b v = tt
limit_law Vertical w legs turned side limit b v = band_limits turned w (vertical_worth w turned v) b.vertical limit
limit_law Calendar w legs turned side limit b v = tt
limit_law Butterfly w legs turned side limit b v = band_limits turned w (butterfly_worth w turned v) b.butterfly limit
limit_law BoxSpread w legs turned side limit b v = band_limits turned w (box_worth w turned v) b.boxes limit
limit_law Other w legs turned side limit b v = tt

pub prevention_law : (c : Class) (w : ℕ) (turned : List Leg) (side : Side) (price : ℤ) (b : Buffers) → Long c w turned → PreventionLaw c w turned side price b (prevented_of c w side price b)
prevention_law Bought w turned side price b v = tt
prevention_law Vertical w turned side price b v = band_prevents turned w (vertical_worth w turned v) b.vertical side price
prevention_law Calendar w turned side price b v = tt
prevention_law Butterfly w turned side price b v = band_prevents turned w (butterfly_worth w turned v) b.butterfly side price
prevention_law BoxSpread w turned side price b v = band_prevents turned w (box_worth w turned v) b.boxes side price
prevention_law Other w turned side price b v = tt
