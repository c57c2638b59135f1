-- The first leg that an earlier one names, by a search of the places.
use Rattle.std.proofs.Common.{◌≡◌, ℕ, suc, zero, ◌+◌, ◌<◌, Bool, List, [], ◌∷◌, ◌++◌, map, length, get_or, take, drop, sym, ap, ◌∙◌, arith}
use Rattle.std.specs.List.{find, range_with_len}
use Rattle.std.specs.Option.{option_map}
use Rattle.std.proofs.lemmas.List.{drop_more, drop_all, take_more, map-append}
use Rattle.strategy.specs.declared.leg.Side.TheVariants.{Buy}
use Rattle.market.specs.declared.leg.TradedLeg.{TradedLeg}
use Rattle.orders.specs.Orders.{names, repeated}

abbrev no_leg : TradedLeg
no_leg = record { side = Buy; ratio = 0; series = 0 }

module _ (gs : List TradedLeg) where
  abbrev series : List TradedLeg → List ℕ
  series = map (λ g. g.series)

  -- whether a leg before place i names the series of that leg
  abbrev pub named_before : ℕ → Bool
  named_before i = names (get_or gs i no_leg).series (series (take i gs))

  pub repeated_find : (n i : ℕ) → i + n ≡ length gs → option_map (λ k. k + 1) (find named_before (range_with_len i n)) ≡ repeated (series (take i gs)) (i + 1) (series (drop i gs))
  repeated_find zero i e = sym (ap (λ xs. repeated (series (take i gs)) (i + 1) (series xs)) (drop_all i gs (omega arith)))
  repeated_find (suc n) i e =
      let l : i < length gs = omega arith in
      let next = repeated_find n (i + 1) (omega arith) in
      let earlier : series (take (i + 1) gs) ≡ series (take i gs) ++ (get_or gs i no_leg).series ∷ [] = ap series (take_more gs i no_leg l) ∙ map-append (λ (g : TradedLeg). g.series) (take i gs) (get_or gs i no_leg ∷ []) in
      rw (drop_more gs i no_leg l) (grind (arith, next, earlier))
