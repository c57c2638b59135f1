use Rattle.std.proofs.Common.{ℕ, ◌-◌, ◌^◌, ◌≤◌}
use Rattle.days.specs.Works.{Idle}
use Rattle.gate_calls.specs.Model.{state}
use Rattle.gate_calls.proofs.gate.Gate.first_match.Given as goal

-- no order up to here would fill
abbrev pub invariant-loop-order : goal.invariant-loop-order
invariant-loop-order g l = (k : ℕ) → k ≤ l.above → Idle (state l.self) (g.M.Market.levels l.market) k

abbrev pub decreases-loop-order : goal.decreases-loop-order
decreases-loop-order g l = 2 ^ 16 - l.above
