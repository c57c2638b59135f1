-- What a line source does, in terms of the bytes that wait in it and those that come in.
use Rattle.std.specs.Prelude.{◌≡◌, ℕ, ◌<◌, Bool, true, false, ◌⊎◌, List, [], ◌∷◌, ◌++◌, length, take}
use Rattle.input.specs.Breaks.{NoBreak}

-- some bytes came behind the first 513 of those that waited; none at the end of the input
abbrev pub Grows : Bool → List ℕ → List ℕ → Type 0
Grows true before after = (came : List ℕ) × (after ≡ take 513 before ++ came)
Grows false before after = after ≡ take 513 before

-- the bytes are the line, its break and what comes after, or a last line that lacks its break
abbrev pub Parts : List ℕ → List ℕ → List ℕ → Type 0
Parts bytes whole after = (bytes ≡ whole ++ 10 ∷ after) ⊎ ((bytes ≡ whole) × (0 < length whole) × (after ≡ []))

-- `kept` is of the first line of what waited before and what came: all of it, or the first 513 bytes of
-- a longer one. What comes after that line still waits.
pub record GetsLine (before kept after : List ℕ) : Type 0 where
  pub came : List ℕ
  pub whole : List ℕ
  pub unbroken : NoBreak whole
  pub is : Parts (before ++ came) whole after
  pub start : kept ≡ take 513 whole

-- there is a line, or nothing waited and nothing came
abbrev pub Reads : Bool → List ℕ → List ℕ → List ℕ → Type 0
Reads true before kept after = GetsLine before kept after
Reads false before kept after = (before ≡ []) × (kept ≡ []) × (after ≡ [])
