-- An order that passed its checks.
use Rattle.std.specs.Prelude.{ℕ, ◌&&◌, List, length, ℤ, Option, Result}
use Rattle.strategy.specs.declared.leg.Side.{Side}
use Rattle.strategy.specs.Few.{listed}
use Rattle.market.specs.declared.leg.TradedLeg.{TradedLeg}
use Rattle.orders.specs.declared.fault.OrderFault.{OrderFault}
use Rattle.orders.specs.declared.fault.OrderFault.TheVariants.{LegCount, Range}
use Rattle.orders.specs.declared.records.Channel.{Channel}
use Rattle.orders.specs.declared.records.LegTerms.{LegTerms}
use Rattle.orders.specs.declared.records.OrderTerms.{OrderTerms}
use Rattle.orders.specs.declared.legs.OrderLegs.{OrderLegs}
use Rattle.orders.specs.declared.quantity.Quantity.{Quantity}
use Rattle.orders.specs.declared.order.CheckedOrder.{CheckedOrder}
use Rattle.orders.specs.Checks.{check, map_ok, amount}
use Rattle.orders.specs.Ranges.{limit_in_range, quantity_in_range}
use Rattle.orders.specs.LegLists.{is_few, legs_of}
use Rattle.orders.specs.Orders.{two_to_four, legs_checked}

pub record Entered : Type 0 where
  pub side : Side
  pub limit : Option ℤ
  pub quantity : ℕ
  pub channel : Channel
  pub legs : List TradedLeg

abbrev pub units_of : Quantity → ℕ
units_of q = q.units

abbrev pub legs_in : OrderLegs → List TradedLeg
legs_in o = listed o.legs

-- what an order that passed its checks is
abbrev pub entered_order : CheckedOrder → Entered
entered_order o = record { side = o.side; limit = o.limit; quantity = o.quantity.units; channel = o.channel; legs = legs_in o.legs }

-- the order of some terms, with its legs as a market trades them
abbrev pub order_of : OrderTerms → List TradedLeg → Entered
order_of o legs = record { side = o.side; limit = o.limit; quantity = amount o.quantity; channel = o.channel; legs = legs }

-- the order, or why it is refused
abbrev pub checked_order : OrderTerms → Result Entered OrderFault
checked_order o =
    check (is_few o.legs) LegCount (
    check (limit_in_range o.limit && quantity_in_range o.quantity) (Range 0) (
    map_ok (order_of o) (legs_checked (legs_of o.legs))))

-- the same over all legs, however many
abbrev pub whole_order : OrderTerms → List LegTerms → Result Entered OrderFault
whole_order o all =
    check (two_to_four (length all)) LegCount (
    check (limit_in_range o.limit && quantity_in_range o.quantity) (Range 0) (
    map_ok (order_of o) (legs_checked all)))
