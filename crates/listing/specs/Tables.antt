-- The series of a table, by their numbers.
use Rattle.std.specs.Prelude.{List}
use Rattle.strategy.specs.declared.leg.Series.{Series}
use Rattle.listing.specs.declared.table.SeriesTable.{SeriesTable}

abbrev pub table : SeriesTable → List Series
table t = t.series.items
