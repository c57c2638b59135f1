-- The legs in range, one by one.
use Rattle.std.proofs.Common.{◌≡◌, ℕ, ◌+◌, true, false, List, [], ◌∷◌, map, Some, None, Ok, Option, cond, refl, ap, ◌∙◌}
use Rattle.strategy.specs.Few.{try_each, and_then, map_ok}
use Rattle.market.specs.declared.leg.TradedLeg.{TradedLeg}
use Rattle.orders.specs.declared.fault.OrderFault.{OrderFault}
use Rattle.orders.specs.declared.fault.OrderFault.TheVariants.{Range}
use Rattle.orders.specs.declared.records.LegTerms.{LegTerms}
use Rattle.orders.specs.Checks.{check, check_at, first_bad}
use Rattle.orders.specs.Ranges.{leg_in_range, traded_leg}
use Rattle.orders.specs.Orders.{legs_in_range}

later : (o : Option ℕ) (g : TradedLeg) (gs : List TradedLeg) → map_ok {E = OrderFault} (λ ys. g ∷ ys) (check_at o Range (Ok gs)) ≡ check_at o Range (Ok (g ∷ gs))
later None g gs = refl
later (Some n) g gs = refl

each : (n : ℕ) (legs : List LegTerms) → try_each (λ k l. check (leg_in_range l) (Range k) (Ok (traded_leg l))) n legs ≡ check_at (first_bad leg_in_range n legs) Range (Ok (map traded_leg legs))
each n [] = refl
each n (l ∷ ls) = elim (leg_in_range l) as (λ b. and_then (λ g. map_ok (λ gs. g ∷ gs) (try_each (λ k l. check (leg_in_range l) (Range k) (Ok (traded_leg l))) (n + 1) ls)) (check b (Range n) (Ok (traded_leg l))) ≡ check_at (cond b (first_bad leg_in_range (n + 1) ls) (Some n)) Range (Ok (traded_leg l ∷ map traded_leg ls))) [
  | true ↦ ap (map_ok (λ gs. traded_leg l ∷ gs)) (each (n + 1) ls) ∙ later (first_bad leg_in_range (n + 1) ls) (traded_leg l) (map traded_leg ls)
  | false ↦ refl
]

pub each_in_range : (legs : List LegTerms) → try_each (λ k l. check (leg_in_range l) (Range k) (Ok (traded_leg l))) 1 legs ≡ legs_in_range legs
each_in_range legs = each 1 legs
