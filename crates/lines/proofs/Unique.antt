-- A line has one column at fault, one reading and one answer.
use Rattle.std.proofs.Common.{◌≡◌, ℕ, ◌+◌, ◌-◌, ◌<◌, ◌≤◌, List, [], ◌∷◌, ◌++◌, length, take, drop, sym, refl, ap, ◌∙◌, subst, ⊎_elim, append_assoc, arith, length-take, Result, Ok, Err}
use Rattle.std.proofs.lemmas.List.{take_all, take-take, take-append-drop}
use Rattle.std.proofs.lemmas.Bool.{cases_lt}
use Rattle.lines.specs.declared.fault.LineFault.{LineFault}
use Rattle.lines.specs.declared.fault.LineFault.TheVariants.{ShortArea, TooLong, Broken, Unknown}
use Rattle.lines.specs.Forms.{Atom, word, number, Item, single, group, atom_text, item_text, Form, OneReading, Begins, FaultAt, OnlyFault}
use Rattle.std.specs.Result.{IsErr}
use Rattle.lines.specs.Faults.{Refuses}
use Rattle.lines.specs.Cursors.{Opens, Only}
use Rattle.lines.specs.declared.cursor.Cursor.{Cursor}
use Rattle.lines.specs.Tokens.{Lexeme, named, opens, closes, atom_lexeme, spaced_atom_lexemes, spaced_item_lexemes, form_lexemes}
use Rattle.lines.proofs.Lexes.{form_left}

-- One column at fault.

-- what begins a form does so from its first bytes on
begins_less : (p q : List ℕ) → Begins (p ++ q) → Begins p
begins_less p q f = (q ++ f.0, subst Form (append_assoc p q f.0) f.1)

begins_take : (line : List ℕ) (i k : ℕ) → i ≤ k → Begins (take k line) → Begins (take i line)
begins_take line i k h f =
    let split : take k line ≡ take i line ++ drop i (take k line) = sym (take-append-drop i (take k line)) ∙ ap (λ xs. xs ++ drop i (take k line)) (take-take i k line h) in
    begins_less (take i line) (drop i (take k line)) (subst Begins split f)

not_before : (line : List ℕ) (c d : ℕ) → FaultAt line c → FaultAt line d → c < d → ⊥
not_before line c d f g h = f.here (omega (arith, g.high)) (begins_take line c (d - 1) (omega arith) g.before)

one_fault : (line : List ℕ) (c d : ℕ) → FaultAt line c → FaultAt line d → d ≡ c
one_fault line c d f g =
    ⊎_elim (λ h. absurd (not_before line c d f g h)) (λ h.
    ⊎_elim (λ k. absurd (not_before line d c g f k)) (λ k. omega arith) (cases_lt d c)) (cases_lt c d)

pub only_fault : (line : List ℕ) (c : ℕ) → FaultAt line c → OnlyFault line c
only_fault line c f = record { fault = f; only = λ d g. one_fault line c d f g }

-- One reading.

first : {A : Type 0} {x y : A} {xs ys : List A} → x ∷ xs ≡ y ∷ ys → x ≡ y
first e = cc

rest : {A : Type 0} {x y : A} {xs ys : List A} → x ∷ xs ≡ y ∷ ys → xs ≡ ys
rest e = cc

-- a bracket is no word and no number
not_opens : {X : Type 0} (c : ℕ) (a : Atom) → atom_lexeme c a ≡ opens → X
not_opens c (word w) e = let z : ◌≡◌ {A = ℕ} 0 1 = cc in absurd (omega arith)
not_opens c (number n) e = let z : ◌≡◌ {A = ℕ} 0 1 = cc in absurd (omega arith)

not_closes : {X : Type 0} (c : ℕ) (a : Atom) → atom_lexeme c a ≡ closes → X
not_closes c (word w) e = let z : ◌≡◌ {A = ℕ} 0 1 = cc in absurd (omega arith)
not_closes c (number n) e = let z : ◌≡◌ {A = ℕ} 0 1 = cc in absurd (omega arith)

same_atom : (c d : ℕ) (a b : Atom) → atom_lexeme c a ≡ atom_lexeme d b → a ≡ b
same_atom c d (word v) (word w) e = cc
same_atom c d (word v) (number n) e = let z : ◌≡◌ {A = ℕ} 0 1 = cc in absurd (omega arith)
same_atom c d (number m) (word w) e = let z : ◌≡◌ {A = ℕ} 0 1 = cc in absurd (omega arith)
same_atom c d (number m) (number n) e = cc

-- what stands in a bracket, and what comes after it
same_atoms : (c d : ℕ) (as' bs : List Atom) (x y : List Lexeme) → spaced_atom_lexemes c as' ++ closes ∷ x ≡ spaced_atom_lexemes d bs ++ closes ∷ y → (as' ≡ bs) × (x ≡ y)
same_atoms c d [] [] x y e = (refl, rest e)
same_atoms c d [] (b ∷ bs) x y e = not_closes (d + 1) b (sym (first e))
same_atoms c d (a ∷ more) [] x y e = not_closes (c + 1) a (first e)
same_atoms c d (a ∷ more) (b ∷ bs) x y e =
    let one = same_atom (c + 1) (d + 1) a b (first e) in
    let others = same_atoms (c + 1 + length (atom_text a)) (d + 1 + length (atom_text b)) more bs x y (rest e) in
    ((λ i. one i ∷ others.0 i), others.1)

same_items : (c d : ℕ) (items others : List Item) → spaced_item_lexemes c items ≡ spaced_item_lexemes d others → items ≡ others
same_items c d [] [] e = refl
same_items c d [] (single b ∷ others) e = let z : ◌≡◌ {A = ℕ} 0 1 = cc in absurd (omega arith)
same_items c d [] (group b more ∷ others) e = let z : ◌≡◌ {A = ℕ} 0 1 = cc in absurd (omega arith)
same_items c d (single a ∷ items) [] e = let z : ◌≡◌ {A = ℕ} 0 1 = cc in absurd (omega arith)
same_items c d (group a more ∷ items) [] e = let z : ◌≡◌ {A = ℕ} 0 1 = cc in absurd (omega arith)
same_items c d (single a ∷ items) (single b ∷ others) e =
    let one = same_atom (c + 1) (d + 1) a b (first e) in
    let more = same_items (c + 1 + length (atom_text a)) (d + 1 + length (atom_text b)) items others (rest e) in
    (λ i. single (one i) ∷ more i)
same_items c d (single a ∷ items) (group b more ∷ others) e = not_opens (c + 1) a (first e)
same_items c d (group a more ∷ items) (single b ∷ others) e = not_opens (d + 1) b (sym (first e))
same_items c d (group a as' ∷ items) (group b bs ∷ others) e =
    let x = spaced_item_lexemes (c + 1 + length (item_text (group a as'))) items in
    let y = spaced_item_lexemes (d + 1 + length (item_text (group b bs))) others in
    let p = spaced_atom_lexemes (c + 1 + 1 + length (atom_text a)) as' in
    let q = spaced_atom_lexemes (d + 1 + 1 + length (atom_text b)) bs in
    let inner = rest e in
    let one = same_atom (c + 1 + 1) (d + 1 + 1) a b (first inner) in
    let parted : p ++ closes ∷ x ≡ q ++ closes ∷ y = sym (append_assoc p (closes ∷ []) x) ∙ rest inner ∙ append_assoc q (closes ∷ []) y in
    let two = same_atoms (c + 1 + 1 + length (atom_text a)) (d + 1 + 1 + length (atom_text b)) as' bs x y parted in
    let more = same_items (c + 1 + length (item_text (group a as'))) (d + 1 + length (item_text (group b bs))) items others two.1 in
    (λ i. group (one i) (two.0 i) ∷ more i)

named_same : {c d : ℕ} {v w : List ℕ} → named c v ≡ named d w → v ≡ w
named_same e = cc

pub one_reading : (line : List ℕ) → OneReading line
one_reading line head head' items items' s s' =
    let e : form_lexemes head items ≡ form_lexemes head' items' = sym (form_left line head items s) ∙ form_left line head' items' s' in
    (named_same (first e), same_items (2 + length head) (2 + length head') items items' (rest e))

-- One answer.

pub one_refusal : (line : List ℕ) (e f : LineFault) → Refuses line e → Refuses line f → f ≡ e
one_refusal line ShortArea f r s = elim r [ ]
one_refusal line TooLong ShortArea r s = elim s [ ]
one_refusal line TooLong TooLong r s = refl
one_refusal line TooLong (Broken d) r s = absurd (omega (arith, s.0))
one_refusal line TooLong Unknown r s = elim s [ ]
one_refusal line (Broken c) ShortArea r s = elim s [ ]
one_refusal line (Broken c) TooLong r s = absurd (omega (arith, r.0))
one_refusal line (Broken c) (Broken d) r s = ap Broken (one_fault line c d r.1 s.1)
one_refusal line (Broken c) Unknown r s = elim s [ ]
one_refusal line Unknown f r s = elim r [ ]

pub none_of_a_form : (line : List ℕ) → length line ≤ 512 → Form line → (e : LineFault) → Refuses line e → ⊥
none_of_a_form line short form ShortArea r = r
none_of_a_form line short form TooLong r = omega arith
none_of_a_form line short form (Broken c) r = r.1.broken form
none_of_a_form line short form Unknown r = r

-- a line of which 513 bytes are kept is over 512 bytes just if the kept bytes are, and else is kept whole
pub kept_long : (kept whole : List ℕ) → kept ≡ take 513 whole → 512 < length kept → 512 < length whole
kept_long kept whole e h = omega (arith, ap length e, length-take 513 whole)

pub kept_whole : (kept whole : List ℕ) → kept ≡ take 513 whole → length kept ≤ 512 → kept ≡ whole
kept_whole kept whole e h = e ∙ take_all 513 whole (omega (arith, ap length e, length-take 513 whole))

pub refused_only : (line : List ℕ) (r : Result Cursor LineFault) → IsErr r → Opens line r → Only line r
refused_only line (Ok c) h o = absurd (cc)
refused_only line (Err e) h o = λ f. one_refusal line e f o

pub refused_cut : (line : List ℕ) (r : Result Cursor LineFault) → IsErr r → Opens line r → length line ≤ 512 → (whole : List ℕ) → line ≡ take 513 whole → Opens whole r
refused_cut line (Ok c) h o short whole e = absurd (cc)
refused_cut line (Err f) h o short whole e = subst (λ l. Refuses l f) (kept_whole line whole e short) o
