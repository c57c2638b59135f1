-- What the legs of an order keep once they passed its checks.
use Rattle.std.specs.Prelude.{Bool, true, ◌&&◌, List, [], ◌∷◌, nat_le}
use Rattle.strategy.specs.declared.leg.Side.TheVariants.{Buy, Sell}
use Rattle.strategy.specs.declared.legs.Legs.{Legs}
use Rattle.strategy.specs.declared.legs.Legs.TheVariants.{Two}
use Rattle.strategy.specs.Legs.{turned_side}
use Rattle.market.specs.declared.leg.TradedLeg.{TradedLeg}
use Rattle.market.specs.Takes.{distinct}

-- whether every ratio is from 1 to 12
abbrev pub ratios_in_range : List TradedLeg → Bool
ratios_in_range [] = true
ratios_in_range (g ∷ gs) = (nat_le 1 g.ratio && nat_le g.ratio 12) && ratios_in_range gs

-- every ratio from 1 to 12, and all legs in different series
abbrev pub sound : List TradedLeg → Bool
sound gs = ratios_in_range gs && distinct gs

-- a leg in turned terms, or as it is
abbrev pub turned_leg : Bool → TradedLeg → TradedLeg
turned_leg turned g = record { side = turned_side turned g.side; ratio = g.ratio; series = g.series }

-- one of series 0 bought and one of series 1 sold, where no order stands
abbrev pub blank_legs : Legs TradedLeg
blank_legs = Two (record { side = Buy; ratio = 1; series = 0 } ∷ record { side = Sell; ratio = 1; series = 1 } ∷ [])
