-- The legs of an order: their ratios, and each by a function.
use Rattle.std.proofs.Common.{◌≡◌, ℕ, zero, suc, ◌<◌, ◌≤◌, true, ◌&&◌, leb, List, [], ◌∷◌, map, length, get_or, refl, arith}
use Rattle.std.specs.List.{All}
use Rattle.std.proofs.lemmas.Bool.{and_parts, leb-true}
use Rattle.strategy.specs.declared.legs.Legs.{Legs}
use Rattle.strategy.specs.declared.legs.Legs.TheVariants.{Two, Three, Four}
use Rattle.strategy.specs.Few.{listed, each_leg}
use Rattle.market.specs.declared.leg.TradedLeg.{TradedLeg}
use Rattle.market.specs.Takes.{distinct}
use Rattle.orders.specs.SoundLegs.{ratios_in_range, sound}

pub listed_each : {A B : Type 0} (f : A → B) (legs : Legs A) → listed (each_leg f legs) ≡ map f (listed legs)
listed_each f (Two legs) = refl
listed_each f (Three legs) = refl
listed_each f (Four legs) = refl

ratio_at : (gs : List TradedLeg) (k : ℕ) (d : TradedLeg) → ratios_in_range gs ≡ true → k < length gs → (1 ≤ (get_or gs k d).ratio) × ((get_or gs k d).ratio ≤ 12)
ratio_at [] k d e lt = absurd (omega arith)
ratio_at (g ∷ gs) zero d e lt =
    let p = and_parts (leb 1 g.ratio) (leb g.ratio 12) (and_parts (leb 1 g.ratio && leb g.ratio 12) (ratios_in_range gs) e).0 in
    (leb-true 1 g.ratio p.0, leb-true g.ratio 12 p.1)
ratio_at (g ∷ gs) (suc k) d e lt = ratio_at gs k d (and_parts (leb 1 g.ratio && leb g.ratio 12) (ratios_in_range gs) e).1 (omega arith)

module _ (gs : List TradedLeg) (s : sound gs ≡ true) where
  pub ratios_some : All (λ g. 1 ≤ g.ratio) gs
  ratios_some k d lt = (ratio_at gs k d (and_parts (ratios_in_range gs) (distinct gs) s).0 lt).0

  pub ratios_small : All (λ g. g.ratio ≤ 12) gs
  ratios_small k d lt = (ratio_at gs k d (and_parts (ratios_in_range gs) (distinct gs) s).0 lt).1
