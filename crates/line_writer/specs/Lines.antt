-- What a line holds.
use Rattle.std.specs.Prelude.{◌≡◌, ℕ, List, [], ◌∷◌, ◌++◌, take, pos}
use Rattle.lines.specs.Forms.{Atom, word, number, spaced_atoms}
use Rattle.line_writer.specs.declared.line.Line.{Line}
use Rattle.line_writer.specs.declared.line.Field.{Field}
use Rattle.line_writer.specs.declared.line.Field.TheVariants.{Word, Count, Number}

abbrev pub held : Line → List ℕ
held l = take l.len l.bytes

-- the bytes are the text, or the first 160 bytes of a longer one
abbrev pub Starts : List ℕ → List ℕ → Type 0
Starts bytes text = bytes ≡ take 160 text

-- whatever text there was before, more stands behind it after
abbrev pub Adds : List ℕ → List ℕ → List ℕ → Type 0
Adds before after more = (text : List ℕ) → Starts before text → Starts after (text ++ more)

abbrev pub atom : Field → Atom
atom (Word w) = word w.now
atom (Count n) = number (pos n)
atom (Number z) = number z

-- a form whose items are words and numbers
abbrev pub render : List ℕ → List Atom → List ℕ
render head fields = 40 ∷ (head ++ (spaced_atoms fields ++ 41 ∷ []))
