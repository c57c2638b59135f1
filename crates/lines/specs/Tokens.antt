-- The tokens of a form.
use Rattle.std.specs.Prelude.{ℕ, ◌+◌, List, [], ◌∷◌, ◌++◌, length, ℤ}
use Rattle.lines.specs.Forms.{Atom, word, number, Item, single, group, atom_text, item_text}
use Rattle.lines.specs.declared.cursor.Token.{Token}
use Rattle.lines.specs.declared.cursor.Token.TheVariants.{Word, Number, Open, Close}

-- a word has the column of its first byte, from 1
pub data Lexeme : Type 0 where
  named : ℕ → List ℕ → Lexeme
  counted : ℤ → Lexeme
  opens : Lexeme
  closes : Lexeme

-- what a token stands for
abbrev pub lexeme : Token → Lexeme
lexeme (Word text column) = named column text.now
lexeme (Number z) = counted z
lexeme Open = opens
lexeme Close = closes

-- c is the column at which the text begins
abbrev pub atom_lexeme : ℕ → Atom → Lexeme
atom_lexeme c (word w) = named c w
atom_lexeme c (number z) = counted z

abbrev pub spaced_atom_lexemes : ℕ → List Atom → List Lexeme
spaced_atom_lexemes c [] = []
spaced_atom_lexemes c (a ∷ more) = atom_lexeme (c + 1) a ∷ spaced_atom_lexemes (c + 1 + length (atom_text a)) more

abbrev pub item_lexemes : ℕ → Item → List Lexeme
item_lexemes c (single a) = atom_lexeme c a ∷ []
item_lexemes c (group a more) = opens ∷ (atom_lexeme (c + 1) a ∷ (spaced_atom_lexemes (c + 1 + length (atom_text a)) more ++ closes ∷ []))

abbrev pub spaced_item_lexemes : ℕ → List Item → List Lexeme
spaced_item_lexemes c [] = []
spaced_item_lexemes c (i ∷ more) = item_lexemes (c + 1) i ++ spaced_item_lexemes (c + 1 + length (item_text i)) more

-- the head stands behind the opening bracket, at column 2
abbrev pub form_lexemes : List ℕ → List Item → List Lexeme
form_lexemes head items = named 2 head ∷ spaced_item_lexemes (2 + length head) items
