-- Checks one after the other: the first that fails gives the refusal.
use Rattle.std.specs.Prelude.{ℕ, ◌+◌, Bool, cond, ◌&&◌, List, [], ◌∷◌, ℤ, pos, negsuc, Some, None, Err, Option, Result, int_le}
pub use Rattle.strategy.specs.Few.{map_ok}

-- what comes after if the test is true, else refused with this fault
abbrev pub check : {A B : Type 0} → Bool → B → Result A B → Result A B
check good fault next = cond good next (Err fault)

-- refused if there is a place at fault
abbrev pub check_at : {A B : Type 0} → Option ℕ → (ℕ → B) → Result A B → Result A B
check_at None fault next = next
check_at (Some place) fault next = Err (fault place)

-- the place of the first element that is not good, counted from n
abbrev pub first_bad : {A : Type 0} → (A → Bool) → ℕ → List A → Option ℕ
first_bad good n [] = None
first_bad good n (x ∷ xs) = cond (good x) (first_bad good (n + 1) xs) (Some n)

-- a number from low to high
abbrev pub between : ℤ → ℤ → ℤ → Bool
between low high n = int_le low n && int_le n high

-- a number that is not negative, as it is
abbrev pub amount : ℤ → ℕ
amount (pos n) = n
amount (negsuc n) = 0
