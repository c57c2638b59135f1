-- Lists of one length are the same in some order exactly if each element of the first is as often in the second.
use Rattle.std.proofs.Common.{◌≡◌, ℕ, suc, ◌+◌, ◌<◌, Bool, true, false, cond, nat_eq, List, [], ◌∷◌, length, sym, refl, ◌∙◌, inl, inr, arith}
use Rattle.std.specs.Bool.{Decides}
use Rattle.std.specs.List.{AllByRecursion, list_all, count_by}
use Rattle.std.proofs.lemmas.Bool.Decides.{Decides-like, Decides-and, Decides-eqb}
use Rattle.std.proofs.lemmas.List.Recursion.{is_count_by}
use Rattle.strategy.specs.Reordering.{TakenOut, Reordered}
use Rattle.strategy.proofs.Reorder.{length_out}

swap : (b c : Bool) (n : ℕ) → cond b (1 + cond c (1 + n) n) (cond c (1 + n) n) ≡ cond c (1 + cond b (1 + n) n) (cond b (1 + n) n)
swap true true n = refl
swap true false n = refl
swap false true n = refl
swap false false n = refl

cancel : (b : Bool) (n m : ℕ) → cond b (1 + n) n ≡ cond b (1 + m) m → n ≡ m
cancel true n m e = omega (arith, e)
cancel false n m e = e

module _ {X : Type 0} (P Q : X → Type 0) (f : (x : X) → P x → Q x) where
  each : (xs : List X) → AllByRecursion P xs → AllByRecursion Q xs
  each [] h = tt
  each (x ∷ xs) h = (f x h.0, each xs h.1)

module _ {X : Type 0} (e : X → X → Bool) where
  abbrev often : X → List X → ℕ
  often z [] = 0
  often z (y ∷ ys) = cond (e y z) (1 + often z ys) (often z ys)

  count_is : (z : X) (ys : List X) → often z ys ≡ count_by (λ y. e y z) ys
  count_is z ys = is_count_by (often z) (λ y. e y z) refl (λ y ys. refl) ys

  often_out : (z x : X) (ys rest : List X) → TakenOut x ys rest → often z ys ≡ often z (x ∷ rest)
  unfolding TakenOut
  often_out z x [] rest t = absurd t
  often_out z x (y ∷ ys) rest (inl (p, r)) = rw (p, r)
  often_out z x (y ∷ ys) rest (inr (less, t, r)) = rw (r, often_out z x ys less t) (swap (e y z) (e x z) (often z less))

  often_same : (xs ys : List X) → Reordered xs ys → (z : X) → often z xs ≡ often z ys
  unfolding Reordered
  often_same [] ys r z = rw r
  often_same (x ∷ xs) ys (rest, t, r) z = rw (often_out z x ys rest t, often_same xs rest r z)

  module _ (is : (x y : X) → Decides (e x y) (x ≡ y)) where
    taken : (x y : X) (ys : List X) → ((0 < often x ys) → (rest : List X) × TakenOut x ys rest) → (b : Bool) → e y x ≡ b → 0 < cond b (1 + often x ys) (often x ys) → (rest : List X) × TakenOut x (y ∷ ys) rest
    unfolding TakenOut
    taken x y ys f true p h = (ys, inl (sym ((is y x).0 p), refl))
    taken x y ys f false p h = let r : (rest : List X) × TakenOut x ys rest = f h in (y ∷ r.0, inr (r.0, r.1, refl))

    takes : (x : X) (ys : List X) → 0 < often x ys → (rest : List X) × TakenOut x ys rest
    takes x [] h = absurd (omega arith)
    takes x (y ∷ ys) h = taken x y ys (takes x ys) (e y x) refl h

    from_counts : (xs ys : List X) → length xs ≡ length ys → AllByRecursion (λ x. often x xs ≡ often x ys) xs → Reordered xs ys
    unfolding Reordered
    from_counts [] [] n h = refl
    from_counts [] (y ∷ ys) n h = absurd (omega arith)
    from_counts (x ∷ xs) ys n h =
        let more : often x (x ∷ xs) ≡ 1 + often x xs = rw ((is x x).1 refl) in
        let t : (rest : List X) × TakenOut x ys rest = takes x ys (omega (arith, more, h.0)) in
        let long : length ys ≡ suc (length t.0) = length_out x ys t.0 t.1 in (
          t.0,
          t.1,
          from_counts xs t.0 (omega (arith, n, long))
              (each _ _ (λ z p. cancel (e x z) (often z xs) (often z t.0) (p ∙ often_out z x ys t.0 t.1)) xs h.1),
        )

    reordered_all : (xs ys all : List X) → ((z : X) → often z xs ≡ often z ys) → AllByRecursion (λ x. often x xs ≡ often x ys) all
    reordered_all xs ys [] h = tt
    reordered_all xs ys (x ∷ all) h = (h x, reordered_all xs ys all h)

    all_is : (xs ys all : List X) → Decides (list_all (λ x. nat_eq (count_by (λ y. e y x) xs) (count_by (λ y. e y x) ys)) all) (AllByRecursion (λ x. often x xs ≡ often x ys) all)
    all_is xs ys [] = (λ h. tt, λ h. refl)
    all_is xs ys (x ∷ all) =
        Decides-and _ _
        (Decides-like _ (λ h. count_is x xs ∙ (h ∙ sym (count_is x ys))) (λ h. sym (count_is x xs) ∙ (h ∙ count_is x ys)) (Decides-eqb (count_by (λ y. e y x) xs) (count_by (λ y. e y x) ys)))
        (all_is xs ys all)

    pub counted : (xs ys : List X) → length xs ≡ length ys → Decides (list_all (λ x. nat_eq (count_by (λ y. e y x) xs) (count_by (λ y. e y x) ys)) xs) (Reordered xs ys)
    counted xs ys n =
        Decides-like _ (from_counts xs ys n) (λ r. reordered_all xs ys xs (often_same xs ys r)) (all_is xs ys xs)
