-- The tokens of any bytes, and those of a form.
use Rattle.std.proofs.Common.{◌≡◌, ℕ, zero, suc, ◌+◌, ◌-◌, ◌*◌, ◌/◌, ◌%◌, ◌^◌, ◌<◌, ◌≤◌, true, false, eqb, ltb, List, [], ◌∷◌, ◌++◌, length, get_or, take, drop, ℤ, pos, negsuc, neg_ℤ, nat_abs, IsUtf8, decimal, sym, refl, ap, ◌∙◌, append_assoc, add-zero, add-one, arith, length-append, length-drop, length-take, drop-cons}
use Rattle.std.specs.Fmt.{signed_decimal}
use Rattle.std.specs.List.{AllByRecursion, fold}
use Rattle.std.proofs.lemmas.Str.Ascii.{IsAscii-from_reads}
use Rattle.std.proofs.lemmas.Str.{IsUtf8-from_ascii}
use Rattle.std.proofs.lemmas.Fmt.{decimal_by_steps, decimal_nonempty, digits_decimal}
use Rattle.std.proofs.ByRecursion.{All-get_or, All-weaker}
use Rattle.std.proofs.lemmas.List.{get_or_append_left, get_or-drop, get_or-take, drop_all, drop_at, drop-drop, take_at}
use Rattle.std.proofs.lemmas.Bool.{cond-true, lt-ltb}
use Rattle.std.proofs.lemmas.Bool.Decides.{nat_tests}
use Rattle.lines.proofs.Accepts.{Digit, own}
use Rattle.lines.specs.Scanner.{within}
use Rattle.lines.specs.Forms.{Letter, Atom, word, number, Item, single, group, IsAtom, IsItem, atom_text, item_text, spaced_atoms, spaced_items, Spells}
use Rattle.lines.specs.Tokens.{named, counted, opens, closes, atom_lexeme, spaced_atom_lexemes, item_lexemes, spaced_item_lexemes, form_lexemes}
use Rattle.lines.specs.Lexing.{ink, inked, with_digit, magnitude, numeral, atom_of, lexed, left_from}

pub lexed_skip : (c k : ℕ) (bs : List ℕ) → lexed c k bs ≡ lexed (c + k) 0 (drop k bs)
lexed_skip c zero [] = refl
lexed_skip c zero (b ∷ bs) = ap (λ j. lexed j 0 (b ∷ bs)) (sym (add-zero c))
lexed_skip c (suc k) [] = refl
lexed_skip c (suc k) (b ∷ bs) =
    let e : c + 1 + k ≡ c + suc k = omega arith in
    lexed_skip (c + 1) k bs ∙ ap (λ j. lexed j 0 (drop k bs)) e

-- One byte, by its class.

pub lexed_space : (c b : ℕ) (bs : List ℕ) → b ≡ 32 → lexed c 0 (b ∷ bs) ≡ lexed (c + 1) 0 bs
lexed_space c b bs e = ap (λ x. lexed c 0 (x ∷ bs)) e

pub lexed_open : (c b : ℕ) (bs : List ℕ) → b ≡ 40 → lexed c 0 (b ∷ bs) ≡ opens ∷ lexed (c + 1) 0 bs
lexed_open c b bs e = ap (λ x. lexed c 0 (x ∷ bs)) e

pub lexed_close : (c b : ℕ) (bs : List ℕ) → b ≡ 41 → lexed c 0 (b ∷ bs) ≡ closes ∷ lexed (c + 1) 0 bs
lexed_close c b bs e = ap (λ x. lexed c 0 (x ∷ bs)) e

within_true : (a z b : ℕ) → a ≤ b → b ≤ z → within a z b ≡ true
within_true a z b low high = grind (arith, nat_tests)

pub ink_above : (b : ℕ) → ink b ≡ true → 45 ≤ b
ink_above b h = grind (arith, nat_tests)

pub ink_below : (b : ℕ) → ink b ≡ true → b < 128
ink_below b h = grind (arith, nat_tests)

differs : (a b : ℕ) → (a ≡ b → ⊥) → eqb a b ≡ false
differs a b h = grind (arith, nat_tests)

pub lexed_atom : (c b : ℕ) (bs : List ℕ) → ink b ≡ true → lexed c 0 (b ∷ bs) ≡ atom_of c (inked (b ∷ bs)) ∷ lexed (c + length (inked (b ∷ bs))) 0 (drop (length (inked (b ∷ bs))) (b ∷ bs))
lexed_atom c b bs h =
    let low = ink_above b h in
    let n = length (inked bs) in
    let e : c + 1 + n ≡ c + suc n = omega arith in
    simp (differs b 32 (λ e. omega arith), differs b 40 (λ e. omega arith), differs b 41 (λ e. omega arith), h)
    (ap (λ ls. atom_of c (b ∷ inked bs) ∷ ls) (lexed_skip (c + 1) n bs ∙ ap (λ j. lexed j 0 (drop n bs)) e))

pub lexed_other : (c b : ℕ) (bs : List ℕ) → (b ≡ 32 → ⊥) → (b ≡ 40 → ⊥) → (b ≡ 41 → ⊥) → ink b ≡ false → lexed c 0 (b ∷ bs) ≡ []
lexed_other c b bs s o k h = simp (differs b 32 s, differs b 40 o, differs b 41 k, h)

pub lexed_ink : (c : ℕ) (xs : List ℕ) → 0 < length xs → ink (get_or xs 0 0) ≡ true → lexed c 0 xs ≡ atom_of c (inked xs) ∷ lexed (c + length (inked xs)) 0 (drop (length (inked xs)) xs)
lexed_ink c [] l h = absurd (omega arith)
lexed_ink c (b ∷ bs) l h = lexed_atom c b bs h

pub inked_is : (xs : List ℕ) (n : ℕ) → n ≤ length xs → ((k : ℕ) → k < n → ink (get_or xs k 0) ≡ true) → (n < length xs → ink (get_or xs n 0) ≡ false) → inked xs ≡ take n xs
inked_is [] zero h i s = refl
inked_is [] (suc n) h i s = absurd (omega arith)
inked_is (x ∷ xs) zero h i s = simp (s (omega arith))
inked_is (x ∷ xs) (suc n) h i s = simp (i 0 (omega arith)) (ap (λ l. x ∷ l) (inked_is xs n (omega arith) (λ k l. i (suc k) (omega arith)) (λ l. s (omega arith))))

-- What is left from a place on.

at_cons : (line : List ℕ) (at : ℕ) → at < length line → drop at line ≡ get_or line at 0 ∷ drop (at + 1) line
at_cons line at h = rw (add-one, drop-cons line at 0)

module _ (line : List ℕ) (at : ℕ) (within : at < length line) where
  pub from_space : get_or line at 0 ≡ 32 → left_from line at ≡ left_from line (at + 1)
  unfolding left_from
  from_space e = ap (lexed (at + 1) 0) (at_cons line at within) ∙ lexed_space (at + 1) (get_or line at 0) (drop (at + 1) line) e

  pub from_open : get_or line at 0 ≡ 40 → left_from line at ≡ opens ∷ left_from line (at + 1)
  unfolding left_from
  from_open e = ap (lexed (at + 1) 0) (at_cons line at within) ∙ lexed_open (at + 1) (get_or line at 0) (drop (at + 1) line) e

  pub from_close : get_or line at 0 ≡ 41 → left_from line at ≡ closes ∷ left_from line (at + 1)
  unfolding left_from
  from_close e = ap (lexed (at + 1) 0) (at_cons line at within) ∙ lexed_close (at + 1) (get_or line at 0) (drop (at + 1) line) e

  pub from_other : (get_or line at 0 ≡ 32 → ⊥) → (get_or line at 0 ≡ 40 → ⊥) → (get_or line at 0 ≡ 41 → ⊥) → ink (get_or line at 0) ≡ false → left_from line at ≡ []
  unfolding left_from
  from_other s o k h = ap (lexed (at + 1) 0) (at_cons line at within) ∙ lexed_other (at + 1) (get_or line at 0) (drop (at + 1) line) s o k h

pub from_end : (line : List ℕ) (at : ℕ) → length line ≤ at → left_from line at ≡ []
unfolding left_from
from_end line at h = ap (lexed (at + 1) 0) (drop_all at line h)

pub from_atom : (line : List ℕ) (start end : ℕ) → start < end → end ≤ length line → ((k : ℕ) → start ≤ k → k < end → ink (get_or line k 0) ≡ true) → (end < length line → ink (get_or line end 0) ≡ false) → left_from line start ≡ atom_of (start + 1) (take (end - start) (drop start line)) ∷ left_from line end
unfolding left_from
from_atom line start end low high inside stops =
    let rest = drop start line in
    let n = end - start in
    let c = start + 1 in
    let long : length rest ≡ length line - start = length-drop start line in
    let back : start + n ≡ end = omega arith in
    let column : c + n ≡ end + 1 = omega arith in
    let first : ink (get_or rest 0 0) ≡ true = ap ink (get_or-drop start line 0 0) ∙ inside (start + 0) (omega arith) (omega arith) in
    let front : inked rest ≡ take n rest = inked_is rest n (omega arith)
    (λ k l. ap ink (get_or-drop start line k 0) ∙ inside (start + k) (omega arith) (omega arith))
    (λ l. ap ink (get_or-drop start line n 0) ∙ ap (λ j. ink (get_or line j 0)) back ∙ stops (omega arith)) in
    let size : length (take n rest) ≡ n = simp length-take (omega arith) in
    lexed_ink c rest (omega arith) first
    ∙ ap (λ u. atom_of c u ∷ lexed (c + length u) 0 (drop (length u) rest)) front
    ∙ ap (λ k. atom_of c (take n rest) ∷ lexed (c + k) 0 (drop k rest)) size
    ∙ ap (λ k. atom_of c (take n rest) ∷ lexed k 0 (drop n rest)) column
    ∙ ap (λ xs. atom_of c (take n rest) ∷ lexed (end + 1) 0 xs) (drop-drop n start line ∙ ap (λ k. drop k line) back)

-- the bytes of a word or a number are text
pub ink_text : (line : List ℕ) (start end : ℕ) → start ≤ end → end ≤ length line → ((k : ℕ) → start ≤ k → k < end → ink (get_or line k 0) ≡ true) → IsUtf8 (take (end - start) (drop start line))
ink_text line start end low high inside =
    let n = end - start in
    let long : length (drop start line) ≡ length line - start = length-drop start line in
    let size : length (take n (drop start line)) ≡ n = simp length-take (omega arith) in
    IsUtf8-from_ascii (take n (drop start line)) (IsAscii-from_reads (take n (drop start line)) n (omega arith)
    (λ k l. ink_below (get_or (take n (drop start line)) k 0) (ap ink (get_or-take n (drop start line) k 0 l ∙ get_or-drop start line k 0) ∙ inside (start + k) (omega arith) (omega arith))))

-- Numbers.

pub magnitude_fold : (n : ℕ) (ds : List ℕ) → fold with_digit n ds ≡ magnitude n ds
magnitude_fold n [] = refl
magnitude_fold n (d ∷ ds) = magnitude_fold (with_digit n d) ds

digit_small : (n b : ℕ) → n < 2 ^ 30 → with_digit n b < 2 ^ 30
digit_small n b h = grind (arith, nat_tests)

pub magnitude_small : (n : ℕ) (ds : List ℕ) → n < 2 ^ 30 → magnitude n ds < 2 ^ 30
magnitude_small n [] h = h
magnitude_small n (d ∷ ds) h = magnitude_small (with_digit n d) ds (digit_small n d h)

pub magnitude_push : (n : ℕ) (ds : List ℕ) (b : ℕ) → magnitude n (ds ++ b ∷ []) ≡ with_digit (magnitude n ds) b
magnitude_push n [] b = refl
magnitude_push n (d ∷ ds) b = magnitude_push (with_digit n d) ds b

pub magnitude_decimal : (n : ℕ) → n < 10 ^ 9 → magnitude 0 (decimal n) ≡ n
magnitude_decimal n h =
    decimal_by_steps (λ m ds. m < 10 ^ 9 → magnitude 0 ds ≡ m)
    (λ m small l. omega arith)
    (λ m ds big ih l.
    let whole : magnitude 0 ds ≡ m / 10 = ih (omega arith) in
    let room : ltb (m / 10) 100000000 ≡ true = lt-ltb (m / 10) 100000000 (omega arith) in
    let digit : (48 + m % 10) % 16 ≡ m % 10 = omega arith in
    let sum : m / 10 * 10 + m % 10 ≡ m = omega arith in
    magnitude_push 0 ds (48 + m % 10) ∙ ap (λ k. with_digit k (48 + m % 10)) whole ∙ cond-true _ _ _ room ∙ ap (λ k. m / 10 * 10 + k) digit ∙ sum)
    n (omega arith) h

first_digit : (n : ℕ) → n < 10 ^ 9 → Digit (get_or (decimal n) 0 0)
first_digit n h = All-get_or Digit (decimal n) 0 0 (decimal_nonempty n (omega arith)) (digits_decimal own n (omega arith))

pub numeral_signed : (z : ℤ) → nat_abs z < 10 ^ 9 → numeral (signed_decimal z) ≡ z
numeral_signed (pos n) h =
    let d = first_digit n h in
    simp (differs (get_or (decimal n) 0 0) 45 (λ e. omega arith)) (ap pos (magnitude_decimal n h))
numeral_signed (negsuc n) h = ap (λ m. neg_ℤ (pos m)) (magnitude_decimal (suc n) (omega arith))

not_letter : (b : ℕ) → b ≤ 57 → within 97 122 b ≡ false
not_letter b h = grind (arith, nat_tests)

pub atom_of_lem : (c : ℕ) (a : Atom) → IsAtom a → atom_of c (atom_text a) ≡ atom_lexeme c a
atom_of_lem c (word w) h =
    let l = All-get_or Letter w 0 0 h.some h.letters in
    simp (within_true 97 122 (get_or w 0 0) l.0 l.1)
atom_of_lem c (number (pos n)) h =
    let d = first_digit n h in
    simp (not_letter (get_or (decimal n) 0 0) (omega arith)) (ap counted (numeral_signed (pos n) h))
atom_of_lem c (number (negsuc n)) h = ap counted (numeral_signed (negsuc n) h)

-- The tokens of a form.

abbrev Inky : ℕ → Type 0
Inky b = ink b ≡ true

inky_digits : (n : ℕ) → n < 10 ^ 9 → AllByRecursion Inky (decimal n)
inky_digits n h = All-weaker Digit Inky (λ b d. within_true 45 127 b (omega arith) (omega arith)) (decimal n) (digits_decimal own n (omega arith))

inky_atom : (a : Atom) → IsAtom a → AllByRecursion Inky (atom_text a)
inky_atom (word w) h = All-weaker Letter Inky (λ b l. within_true 45 127 b (omega arith) (omega arith)) w h.letters
inky_atom (number (pos n)) h = inky_digits n h
inky_atom (number (negsuc n)) h = (refl, inky_digits (suc n) (omega arith))

some_atom : (a : Atom) → IsAtom a → 0 < length (atom_text a)
some_atom (word w) h = h.some
some_atom (number (pos n)) h = decimal_nonempty n (omega arith)
some_atom (number (negsuc n)) h = omega arith

-- nothing, a space or a bracket comes next
abbrev Stops : List ℕ → Type 0
Stops t = ink (get_or t 0 0) ≡ false

ink_append : (w t : List ℕ) → AllByRecursion Inky w → Stops t → inked (w ++ t) ≡ w
ink_append [] [] h s = refl
ink_append [] (b ∷ t) h s = simp s
ink_append (b ∷ w) t h s = simp h.0 (ap (λ l. b ∷ l) (ink_append w t h.1 s))

lexed_at_atom : (c : ℕ) (a : Atom) (t : List ℕ) → IsAtom a → Stops t → lexed c 0 (atom_text a ++ t) ≡ atom_lexeme c a ∷ lexed (c + length (atom_text a)) 0 t
lexed_at_atom c a t h s =
    let w = atom_text a in
    let some = some_atom a h in
    let first : ink (get_or (w ++ t) 0 0) ≡ true = ap ink (get_or_append_left w t 0 0 some) ∙ All-get_or Inky w 0 0 some (inky_atom a h) in
    lexed_ink c (w ++ t) (omega (arith, length-append w t)) first
    ∙ ap (λ u. atom_of c u ∷ lexed (c + length u) 0 (drop (length u) (w ++ t))) (ink_append w t (inky_atom a h) s)
    ∙ ap (λ xs. atom_of c w ∷ lexed (c + length w) 0 xs) (drop_at w t (length w) refl)
    ∙ ap (λ l. l ∷ lexed (c + length w) 0 t) (atom_of_lem c a h)

stops_atoms : (atoms : List Atom) (t : List ℕ) → Stops t → Stops (spaced_atoms atoms ++ t)
stops_atoms [] t s = s
stops_atoms (a ∷ atoms) t s = refl

stops_items : (items : List Item) → Stops (spaced_items items)
stops_items [] = refl
stops_items (i ∷ items) = refl

lexed_atoms : (c : ℕ) (atoms : List Atom) (t : List ℕ) → AllByRecursion IsAtom atoms → Stops t → lexed c 0 (spaced_atoms atoms ++ t) ≡ spaced_atom_lexemes c atoms ++ lexed (c + length (spaced_atoms atoms)) 0 t
lexed_atoms c [] t h s = ap (λ k. lexed k 0 t) (sym (add-zero c))
lexed_atoms c (a ∷ atoms) t h s =
    let k = c + 1 + length (atom_text a) in
    let e : k + length (spaced_atoms atoms) ≡ c + length (spaced_atoms (a ∷ atoms)) = simp length-append (omega arith) in
    ap (lexed (c + 1) 0) (append_assoc (atom_text a) (spaced_atoms atoms) t)
    ∙ lexed_at_atom (c + 1) a (spaced_atoms atoms ++ t) h.0 (stops_atoms atoms t s)
    ∙ ap (λ l. atom_lexeme (c + 1) a ∷ l) (lexed_atoms k atoms t h.1 s ∙ ap (λ j. spaced_atom_lexemes k atoms ++ lexed j 0 t) e)

lexed_item : (c : ℕ) (i : Item) (t : List ℕ) → IsItem i → Stops t → lexed c 0 (item_text i ++ t) ≡ item_lexemes c i ++ lexed (c + length (item_text i)) 0 t
lexed_item c (single a) t h s = lexed_at_atom c a t h s
lexed_item c (group a more) t h s =
    let w = atom_text a in
    let ms = spaced_atoms more in
    let k = c + 1 + length w in
    let e : k + length ms + 1 ≡ c + length (item_text (group a more)) = simp length-append (omega arith) in
    ap (λ l. opens ∷ l)
    (ap (lexed (c + 1) 0) (append_assoc w (ms ++ 41 ∷ []) t ∙ ap (λ xs. w ++ xs) (append_assoc ms (41 ∷ []) t))
    ∙ lexed_at_atom (c + 1) a (ms ++ 41 ∷ t) h.0 (stops_atoms more (41 ∷ t) refl)
    ∙ ap (λ l. atom_lexeme (c + 1) a ∷ l)
    (lexed_atoms k more (41 ∷ t) h.1 refl
    ∙ ap (λ j. spaced_atom_lexemes k more ++ closes ∷ lexed j 0 t) e
    ∙ sym (append_assoc (spaced_atom_lexemes k more) (closes ∷ []) (lexed (c + length (item_text (group a more))) 0 t))))

lexed_items : (c : ℕ) (items : List Item) → AllByRecursion IsItem items → lexed c 0 (spaced_items items) ≡ spaced_item_lexemes c items
lexed_items c [] h = refl
lexed_items c (i ∷ items) h =
    let k = c + 1 + length (item_text i) in
    lexed_item (c + 1) i (spaced_items items) h.0 (stops_items items)
    ∙ ap (λ l. item_lexemes (c + 1) i ++ l) (lexed_items k items h.1)

-- the tokens of a form, read from the line without its last byte
pub form_left : (line head : List ℕ) (items : List Item) → Spells line head items → left_from (take (length line - 1) line) 1 ≡ form_lexemes head items
unfolding left_from
form_left line head items s =
    let front = 40 ∷ (head ++ spaced_items items) in
    let split : line ≡ front ++ 41 ∷ [] = s.whole ∙ ap (λ xs. 40 ∷ xs) (sym (append_assoc head (spaced_items items) (41 ∷ []))) in
    let size : length front ≡ length line - 1 = omega (arith, ap length split, length-append front (41 ∷ [])) in
    ap (λ xs. lexed 2 0 (drop 1 xs)) (ap (take (length line - 1)) split ∙ take_at front (41 ∷ []) (length line - 1) size)
    ∙ lexed_at_atom 2 (word head) (spaced_items items) s.name (stops_items items)
    ∙ ap (λ l. named 2 head ∷ l) (lexed_items (2 + length head) items s.parts)
