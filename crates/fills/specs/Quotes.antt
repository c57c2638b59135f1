-- What an order in turned terms gets from a market.
use Rattle.std.specs.Prelude.{ℕ, List, ℤ, Ok, Err, Result}
use Rattle.strategy.specs.declared.price.Buffers.{Buffers}
use Rattle.strategy.specs.Few.{listed, each_leg}
use Rattle.market.specs.declared.leg.TradedLeg.{TradedLeg}
use Rattle.market.specs.Levels.{Levels}
use Rattle.market.specs.Takes.{legs_taken}
use Rattle.orders.specs.declared.fault.GateFault.{GateFault}
use Rattle.orders.specs.declared.turned.TurnedOrder.{TurnedOrder}
use Rattle.orders.specs.TurnedTerms.{terms_of}
use Rattle.fills.specs.declared.fill.Fill.{Fill}
use Rattle.fills.specs.Fills.{taken_side, allowed, leg_fill}
use Rattle.fills.specs.Fillings.{decided}

abbrev pub order_legs : TurnedOrder → List TradedLeg
order_legs o = listed o.legs.legs

-- the fill of an order at its net price
abbrev pub fill_at : Levels → TurnedOrder → ℕ → ℤ → Fill
fill_at b o remaining net = record {
  units = allowed b (taken_side o.side) remaining (order_legs o);
  net = net;
  legs = each_leg (leg_fill b (taken_side o.side)) o.legs.legs;
}

-- what an order of which some units remain would get
abbrev pub quoted : Levels → TurnedOrder → ℕ → Buffers → Result Fill GateFault
quoted b o remaining buffers = decided b (terms_of o) buffers (fill_at b o remaining)

-- the market after an execution: a fill takes ratio times units of every leg, a refusal nothing
abbrev pub executed : Levels → TurnedOrder → Result Fill GateFault → Levels
executed b o (Ok f) = legs_taken b (taken_side o.side) f.units (order_legs o)
executed b o (Err fault) = b
