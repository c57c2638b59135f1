-- The levels of one side of a ladder's series.
use Rattle.std.specs.Prelude.{List}
use Rattle.market.specs.declared.quote.Level.{Level}
use Rattle.venues.specs.declared.depth.Depth.{Depth}

abbrev pub depth_levels : Depth → List Level
depth_levels d = d.levels.items
