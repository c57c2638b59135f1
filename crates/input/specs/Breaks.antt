-- Line breaks.
use Rattle.std.specs.Prelude.{◌≡◌, ℕ, ◌<◌, List, ◌∷◌, ◌++◌, length, take, ◌≢◌, slice_index, slice_index_or}

abbrev pub NoBreak : List ℕ → Type 0
NoBreak bytes = (k : ℕ) → k < length bytes → slice_index bytes k ≢ 10

-- n is the place of the first line break
pub record BreakAt (bytes : List ℕ) (n : ℕ) : Type 0 where
  pub inside : n < length bytes
  pub here : slice_index_or bytes n 0 ≡ 10
  pub first : (k : ℕ) → k < n → slice_index bytes k ≢ 10

-- The bytes begin with a line and its break, and `after` comes then. Of the line, `kept` has the first
-- 513 bytes, which is all of it where it has no more.
pub record Splits (bytes kept after : List ℕ) : Type 0 where
  pub whole : List ℕ
  pub unbroken : NoBreak whole
  pub is : bytes ≡ whole ++ 10 ∷ after
  pub start : kept ≡ take 513 whole
