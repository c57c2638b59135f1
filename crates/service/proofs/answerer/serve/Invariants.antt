use Rattle.std.proofs.Common.{ℕ, List, []}
use Rattle.input.specs.Buffers.{waiting}
use Rattle.service.specs.Served.{Came, Through}
use Rattle.service.proofs.answerer.serve.Given as goal

abbrev pub invariant-loop : goal.invariant-loop
invariant-loop g l = (lines : List (List ℕ)) × Came [] lines (waiting l.source.held) × Through g.T.Answerer.becomes l.initial.answerer lines l.answerer
