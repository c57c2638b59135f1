use Rattle.std.proofs.Common.{◌∙◌, rules}
use Rattle.strategy.specs.Few.{listed}
use Rattle.listing.specs.Tables.{table}
use Rattle.listing.proofs.Resolved.{option_at, each_listed}
use Rattle.listing.proofs.table.SeriesTable.options.Goals as goal

pub returns : goal.returns
returns c = c.try_map.ensures (option_at (table c.args.self.now)) (λ n l r p. search rules) ∙ each_listed (table c.args.self.now) (listed c.args.legs.now)
