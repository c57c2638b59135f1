use Rattle.input.proofs.Cuts.{first_513}
use Rattle.input.proofs.buffer.LineBuffer.take_rest.Goals as goal

pub returns-clause-line : goal.returns-clause-line
returns-clause-line c = let b = c.args.self.now in first_513 b.ahead.start b.ahead.end c.min.result b.bytes (cc (c.waiting-n.ensures, c.min.ensures))
