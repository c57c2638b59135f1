use Rattle.std.proofs.Common.{◌∷◌, ◌++◌, map, take}
use Rattle.lines.specs.Forms.{spaced_atoms}
use Rattle.line_writer.specs.Lines.{held, Adds, atom}
use Rattle.line_writer.proofs.line.Line.put.Given as goal

abbrev pub invariant-loop-field : goal.invariant-loop-field
invariant-loop-field l = Adds (held l.fn.self) (held l.self) (40 ∷ (l.head ++ spaced_atoms (map atom (take l.field-index l.fields))))
