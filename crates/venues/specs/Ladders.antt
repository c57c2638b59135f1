-- The levels of a ladder.
use Rattle.std.specs.Prelude.{List, map, slice_index_or}
use Rattle.venues.specs.declared.series.SeriesDepth.{SeriesDepth}
use Rattle.venues.specs.declared.ladder.Ladder.{Ladder}
use Rattle.market.specs.Levels.{Levels}
use Rattle.venues.specs.SeriesDepths.{no_depth, series_levels}

-- the levels of a table of series
abbrev pub rows_levels : List SeriesDepth → Levels
rows_levels ds = λ k s. slice_index_or (map series_levels ds) k no_depth s

abbrev pub ladder_levels : Ladder → Levels
ladder_levels l = rows_levels l.series
