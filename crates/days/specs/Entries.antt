-- The call of enter.
use Rattle.std.specs.Prelude.{ℕ, ◌+◌, not, List, map, ℤ, Some, None, Ok, Option, Result, nat_le}
use Rattle.strategy.specs.declared.leg.Leg.{Leg}
use Rattle.strategy.specs.declared.leg.Series.{Series}
use Rattle.strategy.specs.declared.class.Strategy.{Strategy}
use Rattle.strategy.specs.declared.price.Buffers.{Buffers}
use Rattle.strategy.specs.declared.price.Refusal.{Refusal}
use Rattle.strategy.specs.declared.price.Refusal.TheVariants as refusal
use Rattle.strategy.specs.Prices.{limit_refusal}
use Rattle.market.specs.declared.leg.TradedLeg.{TradedLeg}
use Rattle.orders.specs.declared.fault.GateFault.{GateFault}
use Rattle.orders.specs.declared.fault.GateFault.TheVariants as gate
use Rattle.orders.specs.declared.records.OrderTerms.{OrderTerms}
use Rattle.orders.specs.declared.records.Channel.{Channel}
use Rattle.orders.specs.declared.records.Channel.TheVariants as channel
use Rattle.orders.specs.Checks.{check, map_ok}
use Rattle.orders.specs.Ranges.{traded_leg}
use Rattle.orders.specs.LegLists.{legs_of}
use Rattle.orders.specs.Entered.{Entered, order_of, checked_order}
use Rattle.orders.specs.TurnedTerms.{Terms, turned_terms}
use Rattle.listing.specs.Resolving.{option_leg, resolving}
use Rattle.book.specs.Resting.{Resting, put}
use Rattle.days.specs.Verdicts.{and_then, carried, check_fault}
use Rattle.days.specs.State.{State, in_force, with_orders}
use Rattle.days.specs.Listings.{is_closed}

-- The checks that need no price

-- an order past these checks, as entered, and its legs as options
pub record Placed : Type 0 where
  pub order : Entered
  pub options : List Leg

abbrev pub placed_as : Entered → List Leg → Placed
placed_as x options = record { order = x; options = options }

-- the order, or why it is refused: its own numbers and legs, the phase, the series of its legs
abbrev pub placed : State → OrderTerms → Result Placed GateFault
placed s o =
    and_then (carried (checked_order o)) (λ x.
    check (not (is_closed s.phase)) gate.Phase (
    map_ok (placed_as x) (resolving s.series x.legs)))

-- the legs of an order as entered
abbrev pub entered_legs : OrderTerms → List TradedLeg
entered_legs o = map traded_leg (legs_of o.legs)

-- the order of some terms
abbrev pub entered_as : OrderTerms → Entered
entered_as o = order_of o (entered_legs o)

-- its legs as options of a table of series
abbrev pub options_of : List Series → OrderTerms → List Leg
options_of table o = map (option_leg table) (entered_legs o)

-- The checks of the price and the room, of an order whose legs are of a strategy

-- the refusal of a limit in turned terms; a market order has none
abbrev pub limit_verdict : Option ℤ → List Leg → Terms → Buffers → Option Refusal
limit_verdict None options t b = None
limit_verdict (Some limit) options t b = limit_refusal t.class t.width options t.side limit b

-- an exempt order skips the checks of Minimum and Maximum but for all bought
abbrev pub price_fault : Option Refusal → Channel → Option GateFault
price_fault None c = None
price_fault (Some refusal.BoughtBelowMinimum) c = Some gate.BoughtBelowMinimum
price_fault (Some refusal.BelowMinimum) channel.Plain = Some gate.BelowMinimum
price_fault (Some refusal.BelowMinimum) channel.Exempt = None
price_fault (Some refusal.AboveMaximum) channel.Plain = Some gate.AboveMaximum
price_fault (Some refusal.AboveMaximum) channel.Exempt = None

abbrev pub price_check : Placed → Terms → Buffers → Option GateFault
price_check p t b = price_fault (limit_verdict t.limit p.options t b) p.order.channel

-- an exempt order has the number 0 and needs no room
abbrev pub numbering : State → Channel → Result ℕ GateFault
numbering s channel.Exempt = Ok 0
numbering s channel.Plain =
    check (not (nat_le 64 s.count)) gate.BookFull (
    check (not (nat_le 50000 s.last)) gate.NumbersUsedUp (
    Ok (s.last + 1)))

-- the number of a new order, or why it is refused
abbrev pub entering : State → Placed → Strategy → Result ℕ GateFault
entering s p y = check_fault (price_check p (turned_terms y p.order) (in_force s.notices)) (numbering s p.order.channel)

-- an order that rests in turned terms, with some units open
abbrev pub standing : ℕ → Terms → ℕ → Resting
standing n t units = record { number = n; class = t.class; width = t.width; side = t.side; limit = t.limit; remaining = units; legs = t.legs }

-- an exempt order is not kept
abbrev pub kept_in : State → ℕ → Terms → ℕ → Channel → State
kept_in s n t units channel.Exempt = s
kept_in s n t units channel.Plain = with_orders s n (s.count + 1) (put s.order n (Some (standing n t units)))

abbrev pub entered_in : State → ℕ → Placed → Strategy → State
entered_in s n p y = kept_in s n (turned_terms y p.order) p.order.quantity p.order.channel
