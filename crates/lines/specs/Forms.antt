-- What a line has to be to be a form, and where a line that is none goes wrong.
use Rattle.std.specs.Prelude.{◌≡◌, ℕ, ◌+◌, ◌-◌, ◌^◌, ◌<◌, ◌≤◌, List, [], ◌∷◌, ◌++◌, length, take, ℤ, unsigned_abs}
use Rattle.std.specs.List.{flat_map, AllByRecursion}
use Rattle.std.specs.Fmt.{signed_decimal}

-- a lower-case letter, `a` to `z`
abbrev pub Letter : ℕ → Type 0
Letter b = (97 ≤ b) × (b ≤ 122)

-- a word has 1 to 9 letters
pub record IsWord (w : List ℕ) : Type 0 where
  pub some : 1 ≤ length w
  pub short : length w ≤ 9
  pub letters : AllByRecursion Letter w

pub data Atom : Type 0 where
  word : List ℕ → Atom
  number : ℤ → Atom

-- an item is a word, a number, or a bracket round one or more of these
pub data Item : Type 0 where
  single : Atom → Item
  group : Atom → List Atom → Item

-- a number has up to nine digits
abbrev pub IsAtom : Atom → Type 0
IsAtom (word w) = IsWord w
IsAtom (number z) = unsigned_abs z < 10 ^ 9

abbrev pub IsItem : Item → Type 0
IsItem (single a) = IsAtom a
IsItem (group a more) = IsAtom a × AllByRecursion IsAtom more

-- a number is written in decimal, with a minus if below 0, and so with no leading zero and no -0
abbrev pub atom_text : Atom → List ℕ
atom_text (word w) = w
atom_text (number z) = signed_decimal z

-- one space before each
abbrev pub spaced_atoms : List Atom → List ℕ
spaced_atoms atoms = flat_map (λ a. 32 ∷ atom_text a) atoms

abbrev pub item_text : Item → List ℕ
item_text (single a) = atom_text a
item_text (group a more) = 40 ∷ (atom_text a ++ (spaced_atoms more ++ 41 ∷ []))

abbrev pub spaced_items : List Item → List ℕ
spaced_items items = flat_map (λ i. 32 ∷ item_text i) items

abbrev pub form_text : List ℕ → List Item → List ℕ
form_text head items = 40 ∷ (head ++ (spaced_items items ++ 41 ∷ []))

-- bs is the form with this head and these items
pub record Spells (bs : List ℕ) (head : List ℕ) (items : List Item) : Type 0 where
  pub name : IsWord head
  pub parts : AllByRecursion IsItem items
  pub whole : bs ≡ form_text head items

abbrev pub Form : List ℕ → Type 0
Form bs = (head : List ℕ) × ((items : List Item) × Spells bs head items)

-- the bytes are a form in at most one way
abbrev pub OneReading : List ℕ → Type 0
OneReading bs = (head head' : List ℕ) (items items' : List Item) → Spells bs head items → Spells bs head' items' → (head ≡ head') × (items ≡ items')

-- some form begins with p
abbrev pub Begins : List ℕ → Type 0
Begins p = (rest : List ℕ) × Form (p ++ rest)

-- The line is no form, and c is the column, from 1, of the first byte that no form can have there:
-- the bytes before it begin some form, and with it they begin none. A line that ends too early has
-- the column after its last byte.
pub record FaultAt (line : List ℕ) (c : ℕ) : Type 0 where
  pub low : 1 ≤ c
  pub high : c ≤ length line + 1
  pub before : Begins (take (c - 1) line)
  pub here : c ≤ length line → Begins (take c line) → ⊥
  pub broken : Form line → ⊥

-- c is at fault, and no other column is
pub record OnlyFault (line : List ℕ) (c : ℕ) : Type 0 where
  pub fault : FaultAt line c
  pub only : (d : ℕ) → FaultAt line d → d ≡ c
