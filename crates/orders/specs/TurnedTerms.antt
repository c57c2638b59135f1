-- An order in the terms of its strategy.
use Rattle.std.specs.Prelude.{ℕ, Bool, false, List, map, ℤ, Some, None, Option}
use Rattle.strategy.specs.declared.class.Class.{Class}
use Rattle.strategy.specs.declared.class.Strategy.{Strategy}
use Rattle.strategy.specs.declared.leg.Side.{Side}
use Rattle.strategy.specs.Legs.{turned_side}
use Rattle.strategy.specs.Prices.{turned_price}
use Rattle.market.specs.declared.leg.TradedLeg.{TradedLeg}
use Rattle.orders.specs.declared.turned.TurnedOrder.{TurnedOrder}
use Rattle.orders.specs.Entered.{Entered, legs_in}
use Rattle.orders.specs.SoundLegs.{turned_leg}

pub record Terms : Type 0 where
  pub class : Class
  pub width : ℕ
  pub side : Side
  -- none for a market order
  pub limit : Option ℤ
  pub legs : List TradedLeg

abbrev pub terms_of : TurnedOrder → Terms
terms_of o = record { class = o.class; width = o.width; side = o.side; limit = o.limit; legs = legs_in o.legs }

-- the strategy of an order that stands in its terms already
abbrev pub strategy_of : TurnedOrder → Strategy
strategy_of o = record { class = o.class; width = o.width; turned = false }

abbrev pub turned_limit : Bool → Option ℤ → Option ℤ
turned_limit turned None = None
turned_limit turned (Some limit) = Some (turned_price turned limit)

-- legs flipped, buy and sell swapped and the limit negated where the strategy is turned
abbrev pub turned_terms : Strategy → Entered → Terms
turned_terms s o = record {
  class = s.class;
  width = s.width;
  side = turned_side s.turned o.side;
  limit = turned_limit s.turned o.limit;
  legs = map (turned_leg s.turned) o.legs;
}
