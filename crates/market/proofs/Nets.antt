-- Laws of net prices.
use Rattle.std.proofs.Common.{◌≡◌, ℕ, ◌+◌, ◌*◌, ◌<◌, ◌≤◌, List, length, get_or, drop, ℤ, ◌+ℤ◌, Some, None, Option, sym, refl, ap, ◌∙◌, arith}
use Rattle.std.proofs.lemmas.Int.{ints}
use Rattle.std.proofs.lemmas.List.{at_drop_more, at_drop_all}
use Rattle.market.specs.declared.quote.QuoteSide.{QuoteSide}
use Rattle.market.specs.declared.quote.Level.{Level}
use Rattle.strategy.specs.declared.leg.Side.TheVariants.{Buy}
use Rattle.market.specs.declared.leg.TradedLeg.{TradedLeg}
use Rattle.market.specs.Levels.{Levels, best_of}
use Rattle.strategy.specs.Payoff.{signed}
use Rattle.market.specs.Net.{used_side, part_of, plus, leg_part, net_side}

plus_assoc : (x y : ℤ) (z : Option ℤ) → plus (Some x) (plus (Some y) z) ≡ plus (Some (x +ℤ y)) z
plus_assoc x y None = refl
plus_assoc x y (Some z) = ap Some (omega (arith, ints))

-- leg i of some legs
abbrev pub leg_at : List TradedLeg → ℕ → TradedLeg
leg_at gs i = get_or gs i (record { side = Buy; ratio = 0; series = 0 })

-- a step of the sum over the legs: u is the side that leg i uses, r what is best there
module _ (b : Levels) (q : QuoteSide) (gs : List TradedLeg) (i : ℕ) (h : i < length gs) (u : QuoteSide) (eu : u ≡ used_side (leg_at gs i).side q) (r : Option Level) (er : r ≡ best_of (b (leg_at gs i).series u)) (sum : ℤ) (inv : plus (Some sum) (net_side b (drop i gs) q) ≡ net_side b gs q) where
  part_is : leg_part b q (leg_at gs i) ≡ part_of (leg_at gs i) r
  part_is = ap (λ v. part_of (leg_at gs i) (best_of (b (leg_at gs i).series v))) (sym eu) ∙ ap (part_of (leg_at gs i)) (sym er)

  here : plus (Some sum) (plus (part_of (leg_at gs i) r) (net_side b (drop (i + 1) gs) q)) ≡ net_side b gs q
  here = ap (λ x. plus (Some sum) (plus x (net_side b (drop (i + 1) gs) q))) (sym part_is) ∙ ap (plus (Some sum)) (sym (at_drop_more (λ xs. net_side b xs q) gs i (record { side = Buy; ratio = 0; series = 0 }) h)) ∙ inv

  pub net_some : (l : Level) → r ≡ Some l → (v t : ℤ) → v ≡ signed (leg_at gs i).side ((leg_at gs i).ratio * l.price) → t ≡ sum +ℤ v → plus (Some t) (net_side b (drop (i + 1) gs) q) ≡ net_side b gs q
  net_some l es v t ev et =
      ap (λ x. plus (Some x) (net_side b (drop (i + 1) gs) q)) (et ∙ ap (λ x. sum +ℤ x) ev)
      ∙ sym (plus_assoc sum (signed (leg_at gs i).side ((leg_at gs i).ratio * l.price)) (net_side b (drop (i + 1) gs) q))
      ∙ ap (λ x. plus (Some sum) (plus (part_of (leg_at gs i) x) (net_side b (drop (i + 1) gs) q))) (sym es) ∙ here

  pub net_none : r ≡ None → net_side b gs q ≡ None
  net_none es = sym here ∙ ap (λ x. plus (Some sum) (plus (part_of (leg_at gs i) x) (net_side b (drop (i + 1) gs) q))) es

-- the sum after the last leg
pub net_all : (b : Levels) (q : QuoteSide) (gs : List TradedLeg) (i : ℕ) (sum : ℤ) → length gs ≤ i → plus (Some sum) (net_side b (drop i gs) q) ≡ net_side b gs q → Some sum ≡ net_side b gs q
net_all b q gs i sum h inv = ap Some (omega (arith, ints)) ∙ ap (plus (Some sum)) (sym (at_drop_all (λ xs. net_side b xs q) gs i h)) ∙ inv
