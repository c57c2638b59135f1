-- Resting orders by their numbers.
use Rattle.std.specs.Prelude.{◌≡◌, ℕ, zero, suc, ◌+◌, ◌-◌, ◌<◌, true, cond, List, ℤ, is_some, Some, None, Option, MatchOption, ◌==◌, nat_lt}
use Rattle.strategy.specs.declared.leg.Side.{Side}
use Rattle.strategy.specs.declared.leg.Side.TheVariants.{Buy}
use Rattle.strategy.specs.declared.class.Class.{Class}
use Rattle.strategy.specs.declared.class.Class.TheVariants.{Other}
use Rattle.strategy.specs.Few.{listed}
use Rattle.market.specs.declared.leg.TradedLeg.{TradedLeg}
use Rattle.orders.specs.declared.turned.TurnedOrder.{TurnedOrder}
use Rattle.orders.specs.SoundLegs.{blank_legs}
use Rattle.book.specs.declared.order.RestingOrder.{RestingOrder}
use Rattle.orders.specs.declared.quantity.Quantity.{Quantity}

-- A resting order, in turned terms.
pub record Resting : Type 0 where
  pub number : ℕ
  pub class : Class
  pub width : ℕ
  pub side : Side
  -- none for a market order
  pub limit : Option ℤ
  -- its open units
  pub remaining : ℕ
  pub legs : List TradedLeg

-- an order of these terms that rests with some units
abbrev pub of_terms : ℕ → ℕ → TurnedOrder → Resting
of_terms n units t = record { number = n; class = t.class; width = t.width; side = t.side; limit = t.limit; remaining = units; legs = listed t.legs.legs }

-- as it rests when it comes
abbrev pub entered : ℕ → Quantity → TurnedOrder → Resting
entered n q t = of_terms n q.units t

abbrev pub resting_of : RestingOrder → Resting
resting_of o = of_terms o.number o.remaining o.terms

abbrev pub rest : Option RestingOrder → Option Resting
rest None = None
rest (Some o) = Some (resting_of o)

-- in a place that no order uses
abbrev pub blank : Resting
blank = record { number = 0; class = Other; width = 0; side = Buy; limit = None; remaining = 0; legs = listed blank_legs }

-- no order at any number
abbrev pub nothing : ℕ → Option Resting
nothing = λ k. None

-- f with v at the number n
abbrev pub put : (ℕ → Option Resting) → ℕ → Option Resting → ℕ → Option Resting
put f n v = λ k. cond (n == k) v (f k)

-- an order after a fill of some units: only its open quantity changes
abbrev pub lessened : Resting → ℕ → Resting
lessened o units = record { number = o.number; class = o.class; width = o.width; side = o.side; limit = o.limit; remaining = o.remaining - units; legs = o.legs }

-- at 0 it leaves, and more units than remain change nothing
abbrev pub reduced : Option Resting → ℕ → Option Resting
reduced None units = None
reduced (Some o) units = cond (o.remaining == units) None (cond (nat_lt units o.remaining) (Some (lessened o units)) (Some o))

-- how many orders a fill makes leave
abbrev pub leaving : Option Resting → ℕ → ℕ
leaving None units = 0
leaving (Some o) units = cond (o.remaining == units) 1 0

-- how many orders
abbrev pub one : Option Resting → ℕ
one None = 0
one (Some o) = 1

-- the open units of an order that rests
abbrev pub units_of : Option Resting → Option ℕ
units_of None = None
units_of (Some o) = Some o.remaining

-- its open units, 0 where none rests
abbrev pub open_units : Option Resting → ℕ
open_units None = 0
open_units (Some o) = o.remaining

-- the sum of w over all numbers up to n
abbrev pub sum_up_to : (Option Resting → ℕ) → (ℕ → Option Resting) → ℕ → ℕ
sum_up_to w f zero = w (f zero)
sum_up_to w f (suc n) = w (f (suc n)) + sum_up_to w f n

-- the open units of all orders with numbers up to n
abbrev pub open_up_to : (ℕ → Option Resting) → ℕ → ℕ
open_up_to f n = sum_up_to open_units f n

-- how many orders rest under numbers up to n
abbrev pub resting_up_to : (ℕ → Option Resting) → ℕ → ℕ
resting_up_to f n = sum_up_to one f n

-- k is the lowest number above n under which an order rests
pub record Next (f : ℕ → Option Resting) (n k : ℕ) : Type 0 where
  pub above : n < k
  pub rests : is_some (f k) ≡ true
  pub lowest : (j : ℕ) → n < j → j < k → f j ≡ None

abbrev pub NextIs : (ℕ → Option Resting) → ℕ → Option ℕ → Type 0
NextIs f n r = MatchOption r ((j : ℕ) → n < j → f j ≡ None) (λ k. Next f n k)

-- o rests under the lowest number above n
pub record NextOrder (f : ℕ → Option Resting) (n : ℕ) (o : Resting) : Type 0 where
  pub above : n < o.number
  pub rests : f o.number ≡ Some o
  pub lowest : (j : ℕ) → n < j → j < o.number → f j ≡ None

abbrev pub NextOrderIs : (ℕ → Option Resting) → ℕ → Option Resting → Type 0
NextOrderIs f n r = MatchOption r ((j : ℕ) → n < j → f j ≡ None) (λ o. NextOrder f n o)
