-- What the calls promise.
use Rattle.std.specs.Prelude.{◌≡◌, ℕ, ◌<◌, List, ◌++◌, length, ℤ, Some, Ok, Option, Result, MatchOption, MatchResult}
use Rattle.strategy.specs.Few.{listed}
use Rattle.market.specs.declared.quote.TwoSided.{TwoSided}
use Rattle.market.specs.Levels.{Levels}
use Rattle.market.specs.Net.{net_market}
use Rattle.orders.specs.declared.fault.GateFault.{GateFault}
use Rattle.orders.specs.declared.records.LegList.{LegList}
use Rattle.orders.specs.Checks.{map_ok}
use Rattle.orders.specs.Orders.{checked_legs}
use Rattle.orders.specs.Entered.{entered_order}
use Rattle.orders.specs.TurnedTerms.{terms_of}
use Rattle.listing.specs.Resolving.{resolving}
use Rattle.book.specs.declared.order.RestingOrder.{RestingOrder}
use Rattle.book.specs.Resting.{resting_of}
use Rattle.fills.specs.declared.fill.Fill.{Fill}
use Rattle.fills.specs.Fillings.{Filling, filling_of, filling}
use Rattle.days.specs.declared.reply.Tally.{Tally}
use Rattle.days.specs.State.{State, Line, in_force}
use Rattle.days.specs.Verdicts.{and_then, carried}
use Rattle.days.specs.Entries.{Placed, placed_as}
use Rattle.days.specs.Works.{line_for, filled_in, filled_from, Idle, Sweeps, Ended, volume}
use Rattle.gate_calls.specs.declared.gate.entry.PlacedOrder.{PlacedOrder}
use Rattle.gate_calls.specs.declared.gate.trading.MatchedOrder.{MatchedOrder}

-- accepted, the gate is as `changed` says; refused, it is as it was
abbrev pub Changes : {A : Type 0} → Result A GateFault → State → State → State → Type 0
Changes r before after changed = MatchResult r (λ _. after ≡ changed) (λ _. after ≡ before)

abbrev pub placed_of : PlacedOrder → Placed
placed_of p = placed_as (entered_order p.order) (listed p.options)

-- the net market of some legs as entered, or why it is refused
abbrev pub netting : State → LegList → Levels → Result (TwoSided ℤ) GateFault
netting s legs m = and_then (carried (checked_legs legs)) (λ gs. map_ok (λ _. net_market m gs) (resolving s.series gs))

-- what a resting order would get now, by the buffers in force
abbrev pub quoted_for : State → Levels → RestingOrder → Result Filling GateFault
quoted_for s m o = filling m (terms_of o.terms) o.remaining (in_force s.notices)

-- the tape line of a resting order's fill
abbrev pub line_with : State → RestingOrder → Fill → Line
line_with s o f = line_for (resting_of o) (length s.notices) (filling_of f)

-- a fill of a resting order, which none with a lower number would get
pub record Matches (s : State) (m : Levels) (o : RestingOrder) (f : Fill) : Type 0 where
  pub held : s.order o.number ≡ Some (resting_of o)
  pub fits : quoted_for s m o ≡ Ok (filling_of f)
  pub lowest : (k : ℕ) → k < o.number → Idle s m k

-- the first order that would fill, or none would
abbrev pub FirstMatch : State → Levels → Option MatchedOrder → Type 0
FirstMatch s m r = MatchOption r ((k : ℕ) → Idle s m k) (λ x. Matches s m x.order x.fill)

-- a fill is on the tape, off its order and out of the market
abbrev pub Settles : State → Levels → Line → State → Levels → Type 0
Settles s m f t m' = (t ≡ filled_in s f) × (m' ≡ filled_from s m f)

-- what a sweep did, and how it ended
pub record Sweeping (s : State) (m : Levels) (r : Tally) (t : State) (m' : Levels) : Type 0 where
  pub fills : List Line
  pub tape : t.tape ≡ s.tape ++ fills
  pub lines : r.lines ≡ length fills
  pub units : r.units ≡ volume fills
  pub sweeps : Sweeps s m fills t m'
  pub ended : Ended r.outcome t m'
