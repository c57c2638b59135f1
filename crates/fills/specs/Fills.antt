-- What an order finds in a market.
use Rattle.std.specs.Prelude.{ℕ, ◌/◌, min, Bool, false, List, ℤ, Some, None, Option, int_lt, nat_lt}
use Rattle.std.specs.List.{fold, position_from}
use Rattle.strategy.specs.declared.leg.Side.{Side}
use Rattle.strategy.specs.declared.leg.Side.TheVariants.{Buy, Sell}
use Rattle.strategy.specs.Payoff.{signed}
use Rattle.market.specs.declared.quote.QuoteSide.{QuoteSide}
use Rattle.market.specs.declared.quote.QuoteSide.TheVariants.{Bid, Offer}
use Rattle.market.specs.declared.quote.Level.{Level}
use Rattle.market.specs.declared.leg.TradedLeg.{TradedLeg}
use Rattle.market.specs.Levels.{Levels, best_of}
use Rattle.market.specs.Net.{used_side}
use Rattle.fills.specs.declared.fill.LegFill.{LegFill}

-- the side of the net market that an order takes: a buy the net offer, a sell the net bid
abbrev pub taken_side : Side → QuoteSide
taken_side Buy = Offer
taken_side Sell = Bid

-- a best level, or without one nothing at price 0
abbrev pub level_of : Option Level → Level
level_of None = record { price = 0; size = 0 }
level_of (Some best) = best

-- the first level that a leg uses for one side of the net market
abbrev pub used_level : Levels → QuoteSide → TradedLeg → Level
used_level b q g = level_of (best_of (b g.series (used_side g.side q)))

-- the first leg, counted from 1, that lacks its ratio in its first level
abbrev pub lacking : Levels → QuoteSide → List TradedLeg → Option ℕ
lacking b q gs = position_from (λ g. nat_lt (used_level b q g).size g.ratio) 1 gs

-- as many of some units as every leg's size allows
abbrev pub allowed : Levels → QuoteSide → ℕ → List TradedLeg → ℕ
allowed b q units gs = fold (λ u g. min ((used_level b q g).size / g.ratio) u) units gs

abbrev pub leg_fill : Levels → QuoteSide → TradedLeg → LegFill
leg_fill b q g = record { series = g.series; ratio = signed g.side g.ratio; price = (used_level b q g).price }

-- a buy above its limit, or a sell below it
abbrev pub past_limit : Side → ℤ → Option ℤ → Bool
past_limit side net None = false
past_limit Buy net (Some limit) = int_lt limit net
past_limit Sell net (Some limit) = int_lt net limit
