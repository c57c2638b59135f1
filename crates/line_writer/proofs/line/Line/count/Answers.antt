use Rattle.std.proofs.Common.{sym}
use Rattle.std.proofs.lemmas.Fmt.{decimal_digit}
use Rattle.line_writer.proofs.Adding.{same_text}
use Rattle.line_writer.proofs.line.Line.count.Goals as goal

pub returns-then-n-lt10 : goal.returns-then-n-lt10
returns-then-n-lt10 c = same_text (sym (decimal_digit c.args.n c.if-n-lt10.true)) c.byte.ensures
