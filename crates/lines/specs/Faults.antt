-- The refusals of the line layer, and what reading a line promises.
use Rattle.std.specs.Prelude.{◌≡◌, ℕ, ◌<◌, ◌≤◌, List, length, codes}
use Rattle.lines.specs.declared.fault.LineFault.{LineFault}
use Rattle.lines.specs.declared.fault.LineFault.TheVariants.{ShortArea, TooLong, Broken, Unknown}
use Rattle.lines.specs.Forms.{Item, Form, FaultAt, Spells, OneReading}
use Rattle.lines.specs.Tokens.{Lexeme, form_lexemes}

abbrev pub number : LineFault → ℕ
number ShortArea = 1
number TooLong = 2
number (Broken c) = 3
number Unknown = 4

abbrev pub layer : LineFault → List ℕ
layer e = codes "line"

abbrev pub place : LineFault → ℕ
place ShortArea = 0
place TooLong = 513
place (Broken c) = c
place Unknown = 1

-- why a line cannot be read; one that is too long is refused for that alone
abbrev pub Refuses : List ℕ → LineFault → Type 0
Refuses line ShortArea = ⊥
Refuses line TooLong = 512 < length line
Refuses line (Broken c) = (length line ≤ 512) × FaultAt line c
Refuses line Unknown = ⊥

-- the line is a form, in one way, and these are its tokens
pub record Read (line : List ℕ) (found : List Lexeme) : Type 0 where
  pub short : length line ≤ 512
  pub form : Form line
  pub one : OneReading line
  pub says : (head : List ℕ) (items : List Item) → Spells line head items → found ≡ form_lexemes head items
