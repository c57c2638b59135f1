use Rattle.std.proofs.Common.{◌≡◌, take, Some}
use Rattle.lines.specs.declared.scan.State.TheVariants.{Start}
use Rattle.lines.specs.Scanner.{run}
use Rattle.lines.proofs.scan.scan.Given as goal

abbrev pub invariant-loop-at : goal.invariant-loop-at
invariant-loop-at l = run (Some Start) (take l.at l.line) ≡ Some l.state
