-- What a line buffer holds, and what its calls do.
use Rattle.std.specs.Prelude.{◌≡◌, ℕ, Bool, true, false, List, ◌++◌, length, take, slice_range}
use Rattle.input.specs.Breaks.{NoBreak, Splits}
use Rattle.input.specs.declared.buffer.LineBuffer.{LineBuffer}

-- the line that was handed on last
abbrev pub line : LineBuffer → List ℕ
line b = slice_range b.bytes b.taken.start b.taken.end

-- what came in and was not yet handed on
abbrev pub waiting : LineBuffer → List ℕ
waiting b = slice_range b.bytes b.ahead.start b.ahead.end

-- where a whole line waits it is handed on, and where none does nothing changes
abbrev pub Takes : LineBuffer → LineBuffer → Bool → Type 0
Takes before after true = Splits (waiting before) (line after) (waiting after)
Takes before after false = NoBreak (waiting before) × (after ≡ before)

-- n bytes came, behind the first 513 of those that waited
pub record Receives (before after : List ℕ) (n : ℕ) : Type 0 where
  pub came : List ℕ
  pub count : length came ≡ n
  pub is : after ≡ take 513 before ++ came
