use Rattle.std.proofs.Common.{sym, ◌∙◌}
use Rattle.strategy.specs.Few.{listed}
use Rattle.listing.specs.Tables.{table}
use Rattle.listing.proofs.Resolved.{found}
use Rattle.listing.proofs.table.SeriesTable.resolve.Goals as goal

pub returns-in-Some : goal.returns-in-Some
returns-in-Some c = found (table c.args.self.now) (listed c.args.legs.now) (listed c.in_ok-options.options) c.in_ok-options.ensures _ (sym c.in-Some.is ∙ c.differing.ensures)

pub returns-in-None : goal.returns-in-None
returns-in-None c = found (table c.args.self.now) (listed c.args.legs.now) (listed c.in_ok-options.options) c.in_ok-options.ensures _ (sym c.in-None.is ∙ c.differing.ensures)
