use Rattle.std.proofs.Common.{ℕ, List, ◌++◌}
use Rattle.input.specs.Buffers.{waiting}
use Rattle.input.proofs.Stands.{Stands}
use Rattle.input.proofs.source.LineSource.read_line.Given as goal

-- what waits stands for what waited at the start and what came since
abbrev pub invariant-loop : goal.invariant-loop
invariant-loop g l = (more : List ℕ) × Stands (waiting l.self.held) (waiting l.initial.self.held ++ more)
