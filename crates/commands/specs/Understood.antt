-- What a line says, and why one is refused.
use Rattle.std.specs.Prelude.{◌≡◌, ℕ, ◌<◌, ◌≤◌, true, List, map, length, Result, MatchResult}
use Rattle.lines.specs.Forms.{Item, Form, FaultAt, Spells}
use Rattle.lines.specs.Tokens.{form_lexemes}
use Rattle.lines.specs.declared.fault.LineFault.{LineFault}
use Rattle.lines.specs.declared.fault.LineFault.TheVariants.{ShortArea, TooLong, Broken, Unknown}
use Rattle.commands.specs.Commands.{Says}
use Rattle.commands.specs.Feeds.{takes}
use Rattle.commands.specs.Parts.{Part, part}
use Rattle.commands.specs.declared.command.Command.{Command}
use Rattle.commands.specs.declared.command.Feed.{Feed}

-- the parts of a form
abbrev pub form_parts : List ℕ → List Item → List Part
form_parts head items = map part (form_lexemes head items)

-- the line is a form, and says the command
pub record Understood (feed : Feed) (line : List ℕ) (c : Command) : Type 0 where
  pub short : length line ≤ 512
  pub form : Form line
  pub taken : takes feed c ≡ true
  pub says : (head : List ℕ) (items : List Item) → Spells line head items → Says c (form_parts head items)

-- the line is a form, and says no command that is taken
pub record Strange (feed : Feed) (line : List ℕ) : Type 0 where
  pub short : length line ≤ 512
  pub form : Form line
  pub silent : (head : List ℕ) (items : List Item) → Spells line head items → (c : Command) → takes feed c ≡ true → Says c (form_parts head items) → ⊥

-- why a line is refused; one that is too long is refused for that alone
abbrev pub Declines : Feed → List ℕ → LineFault → Type 0
Declines feed line ShortArea = ⊥
Declines feed line TooLong = 512 < length line
Declines feed line (Broken c) = (length line ≤ 512) × FaultAt line c
Declines feed line Unknown = Strange feed line

abbrev pub Answered : Feed → List ℕ → Result Command LineFault → Type 0
Answered feed line r = MatchResult r (λ c. Understood feed line c) (λ e. Declines feed line e)

-- no other answer fits the line
abbrev pub OnlyAnswer : Feed → List ℕ → Result Command LineFault → Type 0
OnlyAnswer feed line r = (s : Result Command LineFault) → Answered feed line s → s ≡ r
