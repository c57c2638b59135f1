use Rattle.std.proofs.Common.{refl, ap}
use Rattle.venues.specs.Quotes.{no_quote, sound}
use Rattle.venues.specs.Tables.{get_d_filled, table_filled}
use Rattle.venues.proofs.board.Board.new.Goals as goal

pub invariant_of-result : goal.invariant_of-result
invariant_of-result c = record { size = refl; ok = λ k. ap sound (get_d_filled 256 k no_quote) }

pub returns : goal.returns
returns c = table_filled 256
