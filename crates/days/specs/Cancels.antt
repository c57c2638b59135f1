-- The calls of cancel and phase.
use Rattle.std.specs.Prelude.{ℕ, ◌-◌, not, ℤ, pos, Some, None, Ok, Err, Option, Result}
use Rattle.orders.specs.declared.phase.Phase.{Phase}
use Rattle.orders.specs.declared.bell.Bell.{Bell}
use Rattle.orders.specs.declared.bell.Bell.TheVariants as bell
use Rattle.orders.specs.declared.fault.GateFault.{GateFault}
use Rattle.orders.specs.declared.fault.GateFault.TheVariants as gate
use Rattle.orders.specs.Checks.{check, amount}
use Rattle.orders.specs.Phases.{after}
use Rattle.book.specs.Resting.{Resting, put, nothing, open_up_to}
use Rattle.days.specs.State.{State, lookup, with_orders, with_phase}
use Rattle.days.specs.Listings.{is_closed}

-- Cancel

-- the open units of an order, if it rests
abbrev pub resting_units : Option Resting → Result ℕ GateFault
resting_units None = Err gate.NotResting
resting_units (Some o) = Ok o.remaining

-- the units that a cancel answers, or why it is refused
abbrev pub cancelling : State → ℤ → Result ℕ GateFault
cancelling s n = check (not (is_closed s.phase)) gate.Phase (resting_units (lookup s.order n))

abbrev pub cancelled_in : State → ℤ → State
cancelled_in s n = with_orders s s.last (s.count - 1) (put s.order (amount n) None)

abbrev pub ok_units : Result ℕ GateFault → Option ℕ
ok_units (Ok units) = Some units
ok_units (Err f) = None

-- what cancel of the order n would answer now, if it were not refused
abbrev pub open_at : State → ℕ → Option ℕ
open_at s n = ok_units (cancelling s (pos n))

-- a number, or 0
abbrev pub or_zero : Option ℕ → ℕ
or_zero None = 0
or_zero (Some n) = n

-- what cancel of the order n would answer now, 0 if refused
abbrev pub open_units : State → ℕ → ℕ
open_units s n = or_zero (open_at s n)

-- Phase

-- the units that a bell cancels: close all that is open, any other none
abbrev pub units_cancelled : State → Bell → ℕ
units_cancelled s bell.Open = 0
units_cancelled s bell.Halt = 0
units_cancelled s bell.Resume = 0
units_cancelled s bell.Close = open_up_to s.order s.last

-- the units that a bell answers, where it leads somewhere
abbrev pub rung_units : Option Phase → ℕ → Result ℕ GateFault
rung_units None units = Err gate.Phase
rung_units (Some next) units = Ok units

abbrev pub ringing : State → Bell → Result ℕ GateFault
ringing s b = rung_units (after s.phase b) (units_cancelled s b)

-- close cancels every resting order
abbrev pub rung_to : State → Bell → Phase → State
rung_to s bell.Open p = with_phase s p
rung_to s bell.Halt p = with_phase s p
rung_to s bell.Resume p = with_phase s p
rung_to s bell.Close p = with_phase (with_orders s s.last 0 nothing) p

-- a bell that leads nowhere changes nothing
abbrev pub rung_by : State → Bell → Option Phase → State
rung_by s b None = s
rung_by s b (Some p) = rung_to s b p

abbrev pub rung_in : State → Bell → State
rung_in s b = rung_by s b (after s.phase b)
