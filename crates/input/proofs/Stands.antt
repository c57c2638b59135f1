-- What waits in the buffer stands for all bytes that came, though an unfinished line is cut.
use Rattle.std.proofs.Common.{◌≡◌, ℕ, zero, suc, ◌<◌, Bool, true, false, cond, eqb, ltb, List, [], ◌∷◌, ◌++◌, length, take, sym, refl, ap, ◌∙◌, subst, inl, inr, append-nil, arith, length-take}
use Rattle.std.proofs.lemmas.List.{take-take, get_or-take, nil_from_length}
use Rattle.std.proofs.lemmas.Bool.{ltb-true, ltb-false}
use Rattle.std.proofs.lemmas.Bool.Decides.{nat_tests}
use Rattle.input.specs.Breaks.{NoBreak, Splits}
use Rattle.input.specs.Sources.{GetsLine, Reads}

-- the bytes before the first line break, and those from it on
abbrev front : List ℕ → List ℕ
front [] = []
front (b ∷ bs) = cond (eqb b 10) [] (b ∷ front bs)

abbrev back : List ℕ → List ℕ
back [] = []
back (b ∷ bs) = cond (eqb b 10) (b ∷ bs) (back bs)

differs : (b : ℕ) → (b ≡ 10 → ⊥) → eqb b 10 ≡ false
differs b h = grind (arith, nat_tests)

tail : (b : ℕ) (bs : List ℕ) → NoBreak (b ∷ bs) → NoBreak bs
tail b bs h k l e = h (suc k) (omega arith) e

front_append : (w c : List ℕ) → NoBreak w → front (w ++ c) ≡ w ++ front c
front_append [] c h = refl
front_append (b ∷ w) c h = simp (differs b (h 0 (omega arith))) (ap (λ l. b ∷ l) (front_append w c (tail b w h)))

back_append : (w c : List ℕ) → NoBreak w → back (w ++ c) ≡ back c
back_append [] c h = refl
back_append (b ∷ w) c h = simp (differs b (h 0 (omega arith))) (back_append w c (tail b w h))

front_all : (w : List ℕ) → NoBreak w → front w ≡ w
front_all w h = ap front (sym (append-nil w)) ∙ front_append w [] h ∙ append-nil w

back_none : (w : List ℕ) → NoBreak w → back w ≡ []
back_none w h = ap back (sym (append-nil w)) ∙ back_append w [] h

rejoin : (b : ℕ) (t : Bool) (bs f k : List ℕ) → f ++ k ≡ bs → cond t [] (b ∷ f) ++ cond t (b ∷ bs) k ≡ b ∷ bs
rejoin b true bs f k e = refl
rejoin b false bs f k e = ap (λ l. b ∷ l) e

joined : (xs : List ℕ) → front xs ++ back xs ≡ xs
joined [] = refl
joined (b ∷ bs) = rejoin b (eqb b 10) bs (front bs) (back bs) (joined bs)

none_in : (b : ℕ) (t : Bool) (f : List ℕ) → eqb b 10 ≡ t → NoBreak f → NoBreak (cond t [] (b ∷ f))
none_in b true f e h k l is = absurd (omega arith)
none_in b false f e h zero l is = absurd (grind (arith, nat_tests))
none_in b false f e h (suc k) l is = h k (omega arith) is

front_unbroken : (xs : List ℕ) → NoBreak (front xs)
front_unbroken [] = λ k l. absurd (omega arith)
front_unbroken (b ∷ bs) = none_in b (eqb b 10) (front bs) refl (front_unbroken bs)

-- the same bytes from the first line break on, and the same first 513 bytes before it
pub record Stands (held all : List ℕ) : Type 0 where
  same : take 513 (front held) ≡ take 513 (front all)
  rest : back held ≡ back all

pub stands_self : (w : List ℕ) → Stands w (w ++ [])
stands_self w = let e = append-nil w in record { same = ap (λ l. take 513 (front l)) (sym e); rest = ap back (sym e) }

-- a list that was cut before is cut at the same place
cut_again : (n : ℕ) (xs ys : List ℕ) → take n (take n xs ++ ys) ≡ take n (xs ++ ys)
cut_again zero xs ys = refl
cut_again (suc n) [] ys = refl
cut_again (suc n) (x ∷ xs) ys = ap (λ l. x ∷ l) (cut_again n xs ys)

unbroken_take : (n : ℕ) (w : List ℕ) → NoBreak w → NoBreak (take n w)
unbroken_take n w h k l e =
    let size = length-take n w in
    h k (omega arith) (sym (get_or-take n w k 0 (omega arith)) ∙ e)

-- what stands for unbroken bytes is unbroken
all_unbroken : (w t : List ℕ) → NoBreak w → Stands w t → t ≡ front t
all_unbroken w t h s = sym (joined t) ∙ ap (λ l. front t ++ l) (sym s.rest ∙ back_none w h) ∙ append-nil (front t)

same_start : (w t : List ℕ) → NoBreak w → Stands w t → take 513 w ≡ take 513 t
same_start w t h s = ap (take 513) (sym (front_all w h)) ∙ s.same ∙ ap (take 513) (sym (all_unbroken w t h s))

pub stands_more : (w t c : List ℕ) → NoBreak w → Stands w t → Stands (take 513 w ++ c) (t ++ c)
stands_more w t c h s =
    let cut = unbroken_take 513 w h in
    let open' : NoBreak t = subst NoBreak (sym (all_unbroken w t h s)) (front_unbroken t) in
    record {
      same = ap (take 513) (front_append (take 513 w) c cut) ∙ ap (λ l. take 513 (l ++ front c)) (same_start w t h s) ∙ cut_again 513 t (front c) ∙ sym (ap (take 513) (front_append t c open'));
      rest = back_append (take 513 w) c cut ∙ sym (back_append t c open');
    }

-- a line that is taken is the first line of all bytes
pub gets_line : (before more w kept after : List ℕ) → Stands w (before ++ more) → Splits w kept after → GetsLine before kept after
gets_line before more w kept after s p =
    let t = before ++ more in
    let head : front w ≡ p.whole = ap front p.is ∙ front_append p.whole (10 ∷ after) p.unbroken ∙ append-nil p.whole in
    let next : back w ≡ 10 ∷ after = ap back p.is ∙ back_append p.whole (10 ∷ after) p.unbroken in
    record {
      came = more;
      whole = front t;
      unbroken = front_unbroken t;
      is = inl (sym (joined t) ∙ ap (λ l. front t ++ l) (sym s.rest ∙ next));
      start = p.start ∙ ap (take 513) (sym head) ∙ s.same;
    }

empty_front : (xs ys : List ℕ) → length (xs ++ ys) ≡ 0 → xs ≡ []
empty_front [] ys h = refl
empty_front (x ∷ xs) ys h = absurd (omega arith)

-- the last line
pub gets_rest : (before more w held kept after : List ℕ) (r : Bool) → NoBreak w → Stands w (before ++ more) → held ≡ take 513 w → r ≡ ltb 0 (length held) → kept ≡ take 513 held → after ≡ [] → Reads r before kept after
gets_rest before more w held kept after true h s is some line none =
    let t = before ++ more in
    let e = same_start w t h s in
    let low : 0 < length held = ltb-true 0 (length held) (sym some) in
    record {
      came = more;
      whole = t;
      unbroken = subst NoBreak (sym (all_unbroken w t h s)) (front_unbroken t);
      is = inr (refl, omega (arith, ap length (is ∙ e), length-take 513 t), none);
      start = line ∙ ap (take 513) (is ∙ e) ∙ take-take 513 513 t (omega arith);
    }
gets_rest before more w held kept after false h s is some line none =
    let t = before ++ more in
    let e = same_start w t h s in
    let empty : length held ≡ 0 = omega (arith, ltb-false 0 (length held) (sym some)) in
    let gone : length t ≡ 0 = omega (arith, ap length (is ∙ e), length-take 513 t) in
    (empty_front before more gone, line ∙ ap (take 513) (nil_from_length held empty), none)
