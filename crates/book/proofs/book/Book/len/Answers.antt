use Rattle.std.proofs.Common.{◌∙◌}
use Rattle.book.proofs.Tables.{count_is}
use Rattle.book.proofs.book.Book.len.Goals as goal

pub returns-clause-counted : goal.returns-clause-counted
returns-clause-counted c = c.len.ensures.value ∙ count_is c.args.self.now
