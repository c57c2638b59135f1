-- The calls of work and sweep.
use Rattle.std.specs.Prelude.{◌≡◌, ℕ, ◌+◌, ◌-◌, ◌<◌, Bool, true, false, not, List, [], ◌∷◌, ◌++◌, length, ℤ, Some, None, Ok, Err, Option, Result, ◌≢◌}
use Rattle.market.specs.declared.leg.TradedLeg.{TradedLeg}
use Rattle.market.specs.Levels.{Levels}
use Rattle.market.specs.Takes.{legs_taken}
use Rattle.orders.specs.declared.phase.Phase.{Phase}
use Rattle.orders.specs.declared.phase.Phase.TheVariants as phase
use Rattle.orders.specs.declared.outcome.Outcome.{Outcome}
use Rattle.orders.specs.declared.outcome.Outcome.TheVariants.{Done, Full}
use Rattle.orders.specs.declared.fault.GateFault.{GateFault}
use Rattle.orders.specs.declared.fault.GateFault.TheVariants as gate
use Rattle.orders.specs.Checks.{check, map_ok}
use Rattle.orders.specs.TurnedTerms.{Terms}
use Rattle.book.specs.Resting.{Resting, put, reduced, leaving}
use Rattle.fills.specs.Fills.{taken_side}
use Rattle.fills.specs.Fillings.{Filling, filling}
use Rattle.days.specs.State.{State, Line, tape_full, in_force, lookup, with_orders, with_tape}

abbrev pub is_open : Phase → Bool
is_open phase.Pre = false
is_open phase.Open = true
is_open phase.Halt = false
is_open phase.Closed = false

-- Work

abbrev pub terms_in : Resting → Terms
terms_in o = record { class = o.class; width = o.width; side = o.side; limit = o.limit; legs = o.legs }

-- the tape line of an order that fills
abbrev pub line_for : Resting → ℕ → Filling → Line
line_for o notice f = record { number = o.number; class = o.class; side = o.side; units = f.units; net = f.net; notice = notice; legs = f.legs }

-- what a resting order draws from a market, by the buffers in force
abbrev pub matched : State → Levels → Resting → Result Line GateFault
matched s m o = map_ok (line_for o (length s.notices)) (filling m (terms_in o) o.remaining (in_force s.notices))

abbrev pub when_resting : Option Resting → (Resting → Result Line GateFault) → Result Line GateFault
when_resting None next = Err gate.NotResting
when_resting (Some o) next = next o

-- the line that work writes, or why it is refused
abbrev pub working : State → Levels → ℤ → Result Line GateFault
working s m n =
    check (is_open s.phase) gate.Phase (
    when_resting (lookup s.order n) (λ o.
    check (not (tape_full s)) gate.TapeFull (
    matched s m o)))

-- a line more on the tape, and its units less of its order; at 0 the order leaves
abbrev pub filled_in : State → Line → State
filled_in s f =
    with_tape (with_orders s s.last (s.count - leaving (s.order f.number) f.units) (put s.order f.number (reduced (s.order f.number) f.units)))
    (s.tape ++ f ∷ [])

abbrev pub legs_of : Option Resting → List TradedLeg
legs_of None = []
legs_of (Some o) = o.legs

-- the market after a fill: ratio times units is taken of every leg of the order
abbrev pub filled_from : State → Levels → Line → Levels
filled_from s m f = legs_taken m (taken_side f.side) f.units (legs_of (s.order f.number))

-- Sweep

-- what work of the order n would do in the phase open, a full tape set aside
abbrev pub candidate : State → Levels → ℕ → Result Line GateFault
candidate s m n = when_resting (s.order n) (matched s m)

-- work would not fill the order n
abbrev pub Idle : State → Levels → ℕ → Type 0
Idle s m n = (f : Line) → candidate s m n ≢ Ok f

-- each line is of the lowest-numbered order that work would fill at that moment
abbrev pub Sweeps : State → Levels → List Line → State → Levels → Type 0
Sweeps s m [] t m' = (t ≡ s) × (m' ≡ m)
Sweeps s m (f ∷ fs) t m' =
    (candidate s m f.number ≡ Ok f) × ((k : ℕ) → k < f.number → Idle s m k) × (tape_full s ≡ false) × Sweeps (filled_in s f) (filled_from s m f) fs t m'

-- when a sweep ends: no order would fill, or one would and the tape is full
abbrev pub Ended : Outcome → State → Levels → Type 0
Ended Done t m = (n : ℕ) → Idle t m n
Ended Full t m = (tape_full t ≡ true) × ((n : ℕ) × (f : Line) × (candidate t m n ≡ Ok f))

-- units of all lines
abbrev pub volume : List Line → ℕ
volume [] = 0
volume (f ∷ fs) = f.units + volume fs
