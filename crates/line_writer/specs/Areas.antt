-- What becomes of an area that a caller lends.
use Rattle.std.specs.Prelude.{◌≡◌, ℕ, ◌<◌, ◌≤◌, List, ◌++◌, length, drop}
use Rattle.lines.specs.declared.fault.LineFault.{LineFault}
use Rattle.lines.specs.declared.fault.LineFault.TheVariants.{ShortArea}

-- the text stands at the start of the area, and all else in it is as it was
pub record Written (text before after : List ℕ) (n : ℕ) : Type 0 where
  pub room : 160 ≤ length before
  pub whole : after ≡ text ++ drop (length text) before
  pub count : n ≡ length text

-- the area is under 160 bytes, and nothing was written
pub record TooSmall (e : LineFault) (before after : List ℕ) : Type 0 where
  pub fault : e ≡ ShortArea
  pub small : length before < 160
  pub same : after ≡ before
