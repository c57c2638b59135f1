-- What a cursor has left to read, and what opening one answers.
use Rattle.std.specs.Prelude.{◌≡◌, ℕ, List, Result, MatchResult}
use Rattle.lines.specs.Faults.{Read, Refuses}
use Rattle.lines.specs.Lexing.{left_from}
use Rattle.lines.specs.Tokens.{Lexeme}
use Rattle.lines.specs.declared.cursor.Cursor.{Cursor}
use Rattle.lines.specs.declared.fault.LineFault.{LineFault}

unfoldable pub left : Cursor → List Lexeme
left c = left_from c.line.now c.at

-- a cursor at the line's first token, or why the line is refused
abbrev pub Opens : List ℕ → Result Cursor LineFault → Type 0
Opens line r = MatchResult r (λ c. Read line (left c)) (λ e. Refuses line e)

-- no other refusal fits the line
abbrev pub Only : List ℕ → Result Cursor LineFault → Type 0
Only line r = MatchResult r (λ c. (e : LineFault) → Refuses line e → ⊥) (λ e. (f : LineFault) → Refuses line f → f ≡ e)
