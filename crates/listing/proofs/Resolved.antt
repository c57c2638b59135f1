-- The legs with their series, and the first whose underlying differs.
use Rattle.std.proofs.Common.{◌≡◌, ℕ, ◌+◌, true, false, cond, not, eqb, ltb, List, [], ◌∷◌, map, length, get_or, Some, None, Ok, Option, Result, sym, refl, ap, ◌∙◌}
use Rattle.std.specs.List.{position_from}
use Rattle.std.specs.Option.{ok_or}
use Rattle.strategy.specs.declared.leg.Leg.{Leg}
use Rattle.strategy.specs.declared.leg.Series.{Series}
use Rattle.strategy.specs.Few.{and_then, map_ok, try_each}
use Rattle.market.specs.declared.leg.TradedLeg.{TradedLeg}
use Rattle.orders.specs.declared.fault.GateFault.{GateFault}
use Rattle.orders.specs.declared.fault.GateFault.TheVariants.{NotListed, Underlying}
use Rattle.orders.specs.Checks.{check_at, first_bad}
use Rattle.orders.proofs.Verdicts.{passed_at}
use Rattle.listing.specs.Resolving.{first_unlisted, series_of, differing, option_leg, listed_leg, listed_legs, other_underlying, resolving}

-- a leg with its series, or that it is not listed
abbrev pub option_at : List Series → ℕ → TradedLeg → Result Leg GateFault
option_at t n g = ok_or (listed_leg t g) (NotListed n)

pub other_from : (ls : List Leg) (d : Leg) (r : Option ℕ) → r ≡ position_from (λ x. not (eqb x.series.underlying (get_or ls 0 d).series.underlying)) 1 ls → r ≡ other_underlying ls
other_from [] d r e = e
other_from (l ∷ ls) d r e = e

module _ (t : List Series) where
  later : (o : Option ℕ) (x : Leg) (xs : List Leg) → map_ok {E = GateFault} (λ ys. x ∷ ys) (check_at o NotListed (Ok xs)) ≡ check_at o NotListed (Ok (x ∷ xs))
  later None x xs = refl
  later (Some n) x xs = refl

  each : (n : ℕ) (gs : List TradedLeg) → try_each (option_at t) n gs ≡ check_at (first_bad (λ g. ltb g.series (length t)) n gs) NotListed (Ok (map (option_leg t) gs))
  each n [] = refl
  each n (g ∷ gs) = elim (ltb g.series (length t)) as (λ b. and_then (λ x. map_ok (λ xs. x ∷ xs) (try_each (option_at t) (n + 1) gs)) (ok_or (cond b (Some (option_leg t g)) None) (NotListed n)) ≡ check_at (cond b (first_bad (λ g. ltb g.series (length t)) (n + 1) gs) (Some n)) NotListed (Ok (option_leg t g ∷ map (option_leg t) gs))) [
    | true ↦ ap (map_ok (λ xs. option_leg t g ∷ xs)) (each (n + 1) gs) ∙ later (first_bad (λ g. ltb g.series (length t)) (n + 1) gs) (option_leg t g) (map (option_leg t) gs)
    | false ↦ refl
  ]

  pub each_listed : (gs : List TradedLeg) → try_each (option_at t) 1 gs ≡ listed_legs t gs
  each_listed gs = each 1 gs

  others : (u n : ℕ) (gs : List TradedLeg) → position_from (λ x. not (eqb x.series.underlying u)) n (map (option_leg t) gs) ≡ first_bad (λ g. eqb (series_of t g).underlying u) n gs
  others u n [] = refl
  others u n (g ∷ gs) = elim (eqb (series_of t g).underlying u) as (λ b. cond (not b) (Some n) (position_from (λ x. not (eqb x.series.underlying u)) (n + 1) (map (option_leg t) gs)) ≡ cond b (first_bad (λ g. eqb (series_of t g).underlying u) (n + 1) gs) (Some n)) [
    | true ↦ others u (n + 1) gs
    | false ↦ refl
  ]

  other_is : (gs : List TradedLeg) → other_underlying (map (option_leg t) gs) ≡ differing t gs
  other_is [] = refl
  other_is (g ∷ gs) = others (series_of t g).underlying 1 (g ∷ gs)

  module _ (gs : List TradedLeg) where
    -- all are listed, and o is the first of another underlying
    pub found : (xs : List Leg) → Ok xs ≡ listed_legs t gs → (o : Option ℕ) → o ≡ other_underlying xs → check_at o Underlying (Ok xs) ≡ resolving t gs
    found xs is o first =
        let p = passed_at (first_unlisted t gs) xs (map (option_leg t) gs) NotListed is in
        ap (λ q. check_at q Underlying (Ok xs)) first
        ∙ ap (λ ys. check_at (other_underlying ys) Underlying (Ok ys)) p.1
        ∙ ap (λ q. check_at q Underlying (Ok (map (option_leg t) gs))) (other_is gs)
        ∙ sym (ap (λ q. check_at q NotListed (check_at (differing t gs) Underlying (Ok (map (option_leg t) gs)))) p.0)
