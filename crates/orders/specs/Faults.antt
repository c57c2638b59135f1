-- The number, the layer and the place of each fault, and the words of the layers.
use Rattle.std.specs.Prelude.{ℕ, List, codes}
use Rattle.market.specs.Faults.{fault_number}
use Rattle.orders.specs.declared.fault.OrderFault.{OrderFault}
use Rattle.orders.specs.declared.fault.OrderFault.TheVariants as order
use Rattle.orders.specs.declared.fault.GateFault.{GateFault}
use Rattle.orders.specs.declared.fault.GateFault.TheVariants as gate
use Rattle.orders.specs.declared.fault.Layer.{Layer}
use Rattle.orders.specs.declared.fault.Layer.TheVariants as layer

abbrev pub layer_name : Layer → List ℕ
layer_name layer.Line = codes "line"
layer_name layer.Order = codes "order"
layer_name layer.Market = codes "market"
layer_name layer.Gate = codes "gate"

abbrev pub order_number : OrderFault → ℕ
order_number order.LegCount = 5
order_number (order.Range p) = 6
order_number (order.Repeated p) = 7
order_number order.Ratios = 8

abbrev pub number_of : GateFault → ℕ
number_of (gate.Order f) = order_number f
number_of (gate.Market f) = fault_number f
number_of gate.Phase = 20
number_of gate.TableFull = 21
number_of gate.AlreadyListed = 22
number_of (gate.NotListed p) = 23
number_of (gate.Underlying p) = 24
number_of gate.BoughtBelowMinimum = 25
number_of gate.BelowMinimum = 26
number_of gate.AboveMaximum = 27
number_of gate.BookFull = 28
number_of gate.NumbersUsedUp = 29
number_of gate.NotResting = 30
number_of gate.TapeFull = 31
number_of (gate.NoMarket p) = 32
number_of gate.Limit = 33
number_of gate.Prevented = 34
number_of gate.NoticesFull = 35

abbrev pub layer_of : GateFault → Layer
layer_of (gate.Order f) = layer.Order
layer_of (gate.Market f) = layer.Market
layer_of gate.Phase = layer.Gate
layer_of gate.TableFull = layer.Gate
layer_of gate.AlreadyListed = layer.Gate
layer_of (gate.NotListed p) = layer.Gate
layer_of (gate.Underlying p) = layer.Gate
layer_of gate.BoughtBelowMinimum = layer.Gate
layer_of gate.BelowMinimum = layer.Gate
layer_of gate.AboveMaximum = layer.Gate
layer_of gate.BookFull = layer.Gate
layer_of gate.NumbersUsedUp = layer.Gate
layer_of gate.NotResting = layer.Gate
layer_of gate.TapeFull = layer.Gate
layer_of (gate.NoMarket p) = layer.Gate
layer_of gate.Limit = layer.Gate
layer_of gate.Prevented = layer.Gate
layer_of gate.NoticesFull = layer.Gate

abbrev pub order_place : OrderFault → ℕ
order_place order.LegCount = 0
order_place (order.Range p) = p
order_place (order.Repeated p) = p
order_place order.Ratios = 0

-- the leg from 1, or 0
abbrev pub place_of : GateFault → ℕ
place_of (gate.Order f) = order_place f
place_of (gate.Market f) = 0
place_of gate.Phase = 0
place_of gate.TableFull = 0
place_of gate.AlreadyListed = 0
place_of (gate.NotListed p) = p
place_of (gate.Underlying p) = p
place_of gate.BoughtBelowMinimum = 0
place_of gate.BelowMinimum = 0
place_of gate.AboveMaximum = 0
place_of gate.BookFull = 0
place_of gate.NumbersUsedUp = 0
place_of gate.NotResting = 0
place_of gate.TapeFull = 0
place_of (gate.NoMarket p) = p
place_of gate.Limit = 0
place_of gate.Prevented = 0
place_of gate.NoticesFull = 0
