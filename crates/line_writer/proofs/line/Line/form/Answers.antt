use Rattle.std.proofs.Common.{[]}
use Rattle.line_writer.proofs.line.Line.form.Goals as goal

pub returns : goal.returns
returns c = c.put.ensures [] c.new-line.ensures
