-- The parts of a line, without their columns, that are still to be read.
use Rattle.std.specs.Prelude.{ℕ, List, map, ℤ}
use Rattle.lines.specs.declared.cursor.Cursor.{Cursor}
use Rattle.lines.specs.declared.cursor.Token.{Token}
use Rattle.lines.specs.Cursors.{left}
use Rattle.lines.specs.Tokens.{Lexeme, named, counted, lexeme}
use Rattle.lines.specs.Tokens as tokens

pub data Part : Type 0 where
  word : List ℕ → Part
  number : ℤ → Part
  opens : Part
  closes : Part

abbrev pub part : Lexeme → Part
part (named column text) = word text
part (counted z) = number z
part tokens.opens = opens
part tokens.closes = closes

abbrev pub token_part : Token → Part
token_part t = part (lexeme t)

unfoldable pub rest : Cursor → List Part
rest c = map part (left c)
