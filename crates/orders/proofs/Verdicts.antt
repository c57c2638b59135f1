-- The checks of an order, one after the other.
use Rattle.std.proofs.Common.{◌≡◌, ℕ, Bool, true, false, not, ◌&&◌, ◌||◌, List, [], map, Some, None, Ok, Err, Option, Result, sym, refl, ap, ◌∙◌, arith}
use Rattle.std.proofs.lemmas.Bool.{and_from, cond-true}
use Rattle.std.proofs.lemmas.Simd.{map-map}
use Rattle.market.specs.declared.leg.TradedLeg.{TradedLeg}
use Rattle.orders.specs.declared.fault.OrderFault.{OrderFault}
use Rattle.orders.specs.declared.fault.OrderFault.TheVariants.{LegCount, Range, Repeated, Ratios}
use Rattle.orders.specs.declared.records.LegTerms.{LegTerms}
use Rattle.orders.specs.declared.records.OrderTerms.{OrderTerms}
use Rattle.orders.specs.Checks.{check, check_at, map_ok, first_bad, amount}
use Rattle.orders.specs.Ranges.{limit_in_range, quantity_in_range, leg_in_range, ratio_of, series_number, traded_leg}
use Rattle.orders.specs.LegLists.{is_few, legs_of}
use Rattle.orders.specs.Orders.{legs_in_range, repeated, uneven, reducible, legs_checked}
use Rattle.orders.specs.Entered.{Entered, order_of, checked_order}
use Rattle.orders.specs.SoundLegs.{sound}
use Rattle.orders.proofs.Soundness.{passed_sound}

-- a check that was passed
pub passed : {A B : Type 0} (b : Bool) (x y : A) (f : B) → Ok x ≡ check b f (Ok y) → (b ≡ true) × (x ≡ y)
passed true x y f e = (refl, cc)
passed false x y f e = let z : ◌≡◌ {A = ℕ} 0 1 = cc in absurd (omega arith)

pub passed_at : {A B : Type 0} (o : Option ℕ) (x y : A) (f : ℕ → B) → Ok x ≡ check_at o f (Ok y) → (o ≡ None) × (x ≡ y)
passed_at None x y f e = (refl, cc)
passed_at (Some p) x y f e = let z : ◌≡◌ {A = ℕ} 0 1 = cc in absurd (omega arith)

pub same_series_lem : (legs : List LegTerms) → map (λ g. g.series) (map traded_leg legs) ≡ map series_number legs
same_series_lem legs = map-map (λ (g : TradedLeg). g.series) traded_leg legs

same_ratios : (legs : List LegTerms) → map (λ g. g.ratio) (map traded_leg legs) ≡ map ratio_of legs
same_ratios legs = map-map (λ (g : TradedLeg). g.ratio) traded_leg legs

abbrev faulty : List ℕ → Bool
faulty ratios = uneven ratios || reducible ratios

-- what is left to check of legs whose numbers are in range
abbrev rest : List ℕ → List ℕ → List TradedLeg → Result (List TradedLeg) OrderFault
rest series ratios gs = check_at (repeated [] 1 series) Repeated (check (not (faulty ratios)) Ratios (Ok gs))

module _ (legs : List LegTerms) (gs all : List TradedLeg) (is : Ok gs ≡ legs_in_range legs) (same : all ≡ gs) (first : Option ℕ) (twice : first ≡ repeated [] 1 (map (λ g. g.series) all)) where
  parts : (first_bad leg_in_range 1 legs ≡ None) × (gs ≡ map traded_leg legs)
  parts = passed_at (first_bad leg_in_range 1 legs) gs (map traded_leg legs) Range is

  traded : all ≡ map traded_leg legs
  traded = same ∙ parts.1

  checked_is : legs_checked legs ≡ rest (map (λ g. g.series) all) (map (λ g. g.ratio) all) gs
  checked_is =
      ap (λ o. check_at o Range (rest (map series_number legs) (map ratio_of legs) (map traded_leg legs))) parts.0
      ∙ ap (λ ks. rest ks (map ratio_of legs) (map traded_leg legs)) (sym (ap (map (λ g. g.series)) traded ∙ same_series_lem legs))
      ∙ ap (λ rs. rest (map (λ g. g.series) all) rs (map traded_leg legs)) (sym (ap (map (λ g. g.ratio)) traded ∙ same_ratios legs))
      ∙ ap (rest (map (λ g. g.series) all) (map (λ g. g.ratio) all)) (sym parts.1)

  at_first : legs_checked legs ≡ check_at first Repeated (check (not (faulty (map (λ g. g.ratio) all))) Ratios (Ok gs))
  at_first = checked_is ∙ ap (λ o. check_at o Repeated (check (not (faulty (map (λ g. g.ratio) all))) Ratios (Ok gs))) (sym twice)

  pub stops_repeated : (p : ℕ) → first ≡ Some p → Err (Repeated p) ≡ legs_checked legs
  stops_repeated p e = sym (at_first ∙ ap (λ o. check_at o Repeated (check (not (faulty (map (λ g. g.ratio) all))) Ratios (Ok gs))) e)

  module _ (none : first ≡ None) where
    at_ratios : (t : Bool) → faulty (map (λ g. g.ratio) all) ≡ t → legs_checked legs ≡ check (not t) Ratios (Ok gs)
    at_ratios t e = at_first ∙ ap (λ o. check_at o Repeated (check (not (faulty (map (λ g. g.ratio) all))) Ratios (Ok gs))) none ∙ ap (λ b. check (not b) Ratios (Ok gs)) e

    pub stops_ratios : faulty (map (λ g. g.ratio) all) ≡ true → Err Ratios ≡ legs_checked legs
    stops_ratios e = sym (at_ratios true e)

    pub passes : faulty (map (λ g. g.ratio) all) ≡ false → Ok gs ≡ legs_checked legs
    passes e = sym (at_ratios false e)

    pub passes_sound : sound gs ≡ true
    passes_sound = passed_sound legs gs parts.0 parts.1 (ap (λ x. repeated [] 1 (map (λ g. g.series) x)) (sym same) ∙ sym twice ∙ none)

-- an order whose legs are refused
pub stops_legs : (o : OrderTerms) (legs : List LegTerms) (q : ℕ) (e : OrderFault) → Ok legs ≡ check (is_few o.legs) LegCount (Ok (legs_of o.legs)) → limit_in_range o.limit ≡ true → Ok q ≡ check (quantity_in_range o.quantity) (Range 0) (Ok (amount o.quantity)) → Err e ≡ legs_checked legs → Err e ≡ checked_order o
stops_legs o legs q e counted limit quantity bad =
    let n = passed (is_few o.legs) legs (legs_of o.legs) LegCount counted in
    let k = passed (quantity_in_range o.quantity) q (amount o.quantity) (Range 0) quantity in
    let next : Result Entered OrderFault = map_ok (order_of o) (legs_checked (legs_of o.legs)) in
    let numbers = and_from (limit_in_range o.limit) (quantity_in_range o.quantity) limit k.0 in
    ap (map_ok (order_of o)) (bad ∙ ap legs_checked n.1)
    ∙ sym (cond-true (limit_in_range o.limit && quantity_in_range o.quantity) next (Err (Range 0)) numbers)
    ∙ sym (cond-true (is_few o.legs) (check (limit_in_range o.limit && quantity_in_range o.quantity) (Range 0) next) (Err LegCount) n.0)
