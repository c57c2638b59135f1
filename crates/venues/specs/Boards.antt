-- The levels of a board.
use Rattle.venues.specs.declared.board.Board.{Board}
use Rattle.market.specs.Levels.{Levels}
use Rattle.venues.specs.Quotes.{table_levels}

abbrev pub board_levels : Board → Levels
board_levels b = table_levels b.quotes
