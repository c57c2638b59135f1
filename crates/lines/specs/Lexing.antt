-- The tokens of any bytes, read from the left. On a form these are the form's own, which is what
-- opening a cursor promises; on other bytes they mean nothing.
use Rattle.std.specs.Prelude.{ℕ, zero, suc, ◌+◌, ◌*◌, ◌%◌, Bool, cond, List, [], ◌∷◌, length, drop, ℤ, pos, neg_ℤ, ◌==◌, nat_lt, slice_index}
use Rattle.lines.specs.Scanner.{within}
use Rattle.lines.specs.Tokens.{Lexeme, named, counted, opens, closes}

-- no space, no bracket and ASCII
abbrev pub ink : ℕ → Bool
ink b = within 45 127 b

-- the ink that the bytes begin with
abbrev pub inked : List ℕ → List ℕ
inked [] = []
inked (b ∷ bs) = cond (ink b) (b ∷ inked bs) []

abbrev pub with_digit : ℕ → ℕ → ℕ
with_digit n b = cond (nat_lt n 100000000) (n * 10 + b % 16) n

abbrev pub magnitude : ℕ → List ℕ → ℕ
magnitude n [] = n
magnitude n (b ∷ bs) = magnitude (with_digit n b) bs

abbrev pub numeral : List ℕ → ℤ
numeral bs = cond (slice_index bs 0 == 45) (neg_ℤ (pos (magnitude 0 (drop 1 bs)))) (pos (magnitude 0 bs))

abbrev pub atom_of : ℕ → List ℕ → Lexeme
atom_of c text = cond (within 97 122 (slice_index text 0)) (named c text) (counted (numeral text))

-- c is the column of the first byte, and the next k bytes have been read
abbrev pub lexed : ℕ → ℕ → List ℕ → List Lexeme
lexed c k [] = []
lexed c (suc k) (b ∷ bs) = lexed (c + 1) k bs
lexed c zero (b ∷ bs) = cond (b == 32) (lexed (c + 1) 0 bs) (cond (b == 40) (opens ∷ lexed (c + 1) 0 bs) (cond (b == 41) (closes ∷ lexed (c + 1) 0 bs) (cond (ink b) (atom_of c (b ∷ inked bs) ∷ lexed (c + 1) (length (inked bs)) bs) [])))

-- from the place `at` on
unfoldable pub left_from : List ℕ → ℕ → List Lexeme
left_from line at = lexed (at + 1) 0 (drop at line)
