use Rattle.std.proofs.Common.{◌-◌, min, length}
use Rattle.gate_calls.specs.Model.{state}
use Rattle.gate_calls.proofs.Sweep.{Sofar}
use Rattle.gate_calls.proofs.gate.Gate.fill_all.Given as goal

abbrev pub invariant-loop-first : goal.invariant-loop-first
invariant-loop-first g l = Sofar (state l.initial.self) (g.M.Market.levels l.initial.market) l.lines l.units (state l.self) (g.M.Market.levels l.market)

-- the lines that there is room for
abbrev pub decreases-loop-first : goal.decreases-loop-first
decreases-loop-first g l = min 4096 (state l.self).tape_room - length (state l.self).tape
