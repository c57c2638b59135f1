-- One text after another on a line.
use Rattle.std.proofs.Common.{◌≡◌, ℕ, zero, suc, ◌+◌, ◌-◌, ◌≤◌, min, List, [], ◌∷◌, ◌++◌, length, take, sym, refl, ap, ◌∙◌, subst, ⊎_elim, append_assoc, append-nil, arith, length-append, length-take}
use lib.Seq.{take-append-add}
use Rattle.std.proofs.lemmas.List.{take_all, take-append-le, flat_map_more}
use Rattle.std.proofs.lemmas.Bool.{cases_lt}
use Rattle.lines.specs.Forms.{Atom, atom_text, spaced_atoms}
use Rattle.line_writer.specs.Lines.{Starts, Adds, render}

-- a list that was cut before is cut at the same place
pub cut_again : (n : ℕ) (xs ys : List ℕ) → take n (take n xs ++ ys) ≡ take n (xs ++ ys)
cut_again zero xs ys = refl
cut_again (suc n) [] ys = refl
cut_again (suc n) (x ∷ xs) ys = ap (λ l. x ∷ l) (cut_again n xs ys)

-- what of ys there is room for behind xs
pub cut : (xs ys : List ℕ) (n : ℕ) → length xs ≤ 160 → n ≡ min (length ys) (160 - length xs) → xs ++ take n ys ≡ take 160 (xs ++ ys)
cut xs ys n room is =
    ⊎_elim
    (λ some. let full : length xs + n ≡ 160 = omega arith in sym (take-append-add xs ys n) ∙ ap (λ k. take k (xs ++ ys)) full)
    (λ all. ap (λ l. xs ++ l) (take_all n ys (omega arith)) ∙ sym (take_all 160 (xs ++ ys) (omega (arith, length-append xs ys))))
    (cases_lt n (length ys))

pub there_is_room : (xs text more : List ℕ) → xs ≡ take 160 text → length xs + length more ≤ 160 → xs ++ more ≡ take 160 (text ++ more)
there_is_room xs text more e h =
    sym (take_all 160 (xs ++ more) (omega (arith, length-append xs more))) ∙ ap (λ l. take 160 (l ++ more)) e ∙ cut_again 160 text more

pub no_room : (xs text more : List ℕ) → xs ≡ take 160 text → 160 ≤ length xs → xs ≡ take 160 (text ++ more)
no_room xs text more e h = e ∙ sym (take-append-le 160 text more (omega (arith, ap length e, length-take 160 text)))

pub in_turn : {a b c : List ℕ} (x y : List ℕ) → Adds a b x → Adds b c y → Adds a c (x ++ y)
in_turn {c = c} x y p q text h = subst (λ t. Starts c t) (append_assoc text x y) (q (text ++ x) (p text h))

-- the same text, written otherwise
pub same_text : {a b x y : List ℕ} → x ≡ y → Adds a b x → Adds a b y
same_text {a = a} {b = b} e p = subst (Adds a b) e p

-- a space, and then a text that is written otherwise
pub spaced : {a b c x y : List ℕ} → x ≡ y → Adds a b (32 ∷ []) → Adds b c x → Adds a c (32 ∷ y)
spaced {x = x} e p q = same_text (ap (λ t. 32 ∷ t) e) (in_turn (32 ∷ []) x p q)

-- A form, field by field.

pub opened : {a b c : List ℕ} (head : List ℕ) → Starts a [] → Adds a b (40 ∷ []) → Adds b c head → Starts c (40 ∷ (head ++ spaced_atoms []))
opened {c = c} head s p q = subst (λ t. Starts c (40 ∷ t)) (sym (append-nil head)) (q (40 ∷ []) (p [] s))

pub added : {b c : List ℕ} (head : List ℕ) (fields : List Atom) (a : Atom) → Starts b (40 ∷ (head ++ spaced_atoms fields)) → Adds b c (32 ∷ atom_text a) → Starts c (40 ∷ (head ++ spaced_atoms (fields ++ a ∷ [])))
added {c = c} head fields a s p = subst (λ t. Starts c (40 ∷ t)) (flat_map_more (λ x. 32 ∷ atom_text x) head fields a) (p (40 ∷ (head ++ spaced_atoms fields)) s)

pub closed : {b c : List ℕ} (head : List ℕ) (fields : List Atom) → Starts b (40 ∷ (head ++ spaced_atoms fields)) → Adds b c (41 ∷ []) → Starts c (render head fields)
closed {c = c} head fields s p = subst (λ t. Starts c (40 ∷ t)) (append_assoc head (spaced_atoms fields) (41 ∷ [])) (p (40 ∷ (head ++ spaced_atoms fields)) s)

-- The same behind any text.

pub begun : {a b c : List ℕ} (head : List ℕ) → Adds a b (40 ∷ []) → Adds b c head → Adds a c (40 ∷ (head ++ spaced_atoms []))
begun head p q = same_text (ap (λ t. 40 ∷ t) (sym (append-nil head))) (in_turn (40 ∷ []) head p q)

pub lengthened : {a b c : List ℕ} (head : List ℕ) (fields : List Atom) (x : Atom) → Adds a b (40 ∷ (head ++ spaced_atoms fields)) → Adds b c (32 ∷ atom_text x) → Adds a c (40 ∷ (head ++ spaced_atoms (fields ++ x ∷ [])))
lengthened head fields x p q = same_text (ap (λ t. 40 ∷ t) (flat_map_more (λ y. 32 ∷ atom_text y) head fields x)) (in_turn (40 ∷ (head ++ spaced_atoms fields)) (32 ∷ atom_text x) p q)

pub ended : {a b c : List ℕ} (head : List ℕ) (fields : List Atom) → Adds a b (40 ∷ (head ++ spaced_atoms fields)) → Adds b c (41 ∷ []) → Adds a c (render head fields)
ended head fields p q = same_text (ap (λ t. 40 ∷ t) (append_assoc head (spaced_atoms fields) (41 ∷ []))) (in_turn (40 ∷ (head ++ spaced_atoms fields)) (41 ∷ []) p q)
