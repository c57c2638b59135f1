use Rattle.book.proofs.Tables.{none_above}
use Rattle.book.proofs.book.Book.last.Goals as goal

pub returns-clause-none : goal.returns-clause-none
returns-clause-none c = none_above c.args.self.now
