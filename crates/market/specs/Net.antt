-- The net market of some legs.
use Rattle.std.specs.Prelude.{◌*◌, List, [], ◌∷◌, ℤ, pos, ◌+ℤ◌, Some, None, Option}
use Rattle.strategy.specs.declared.leg.Side.{Side}
use Rattle.strategy.specs.declared.leg.Side.TheVariants.{Buy, Sell}
use Rattle.market.specs.declared.quote.QuoteSide.{QuoteSide}
use Rattle.market.specs.declared.quote.QuoteSide.TheVariants.{Bid, Offer}
use Rattle.market.specs.declared.quote.Level.{Level}
use Rattle.market.specs.declared.quote.TwoSided.{TwoSided}
use Rattle.market.specs.declared.leg.TradedLeg.{TradedLeg}
use Rattle.strategy.specs.Payoff.{signed}
use Rattle.market.specs.Sides.{opposite}
use Rattle.market.specs.Levels.{Levels, best_of}

-- the side of a leg's own market that one side of the net market uses
abbrev pub used_side : Side → QuoteSide → QuoteSide
used_side Buy q = q
used_side Sell q = opposite q

-- a leg's part of a net price: ratio times the best price, nothing if there is none
abbrev pub part_of : TradedLeg → Option Level → Option ℤ
part_of g None = None
part_of g (Some best) = Some (signed g.side (g.ratio * best.price))

abbrev pub leg_part : Levels → QuoteSide → TradedLeg → Option ℤ
leg_part b q g = part_of g (best_of (b g.series (used_side g.side q)))

-- the sum of two amounts, absent if one of them is
abbrev pub plus : Option ℤ → Option ℤ → Option ℤ
plus None y = None
plus (Some x) None = None
plus (Some x) (Some y) = Some (x +ℤ y)

-- one side of the net market
abbrev pub net_side : Levels → List TradedLeg → QuoteSide → Option ℤ
net_side b [] q = Some (pos 0)
net_side b (g ∷ gs) q = plus (leg_part b q g) (net_side b gs q)

abbrev pub net_market : Levels → List TradedLeg → TwoSided ℤ
net_market b gs = record { bid = net_side b gs Bid; offer = net_side b gs Offer }
