-- What reordered lists have in common.
use Rattle.std.proofs.Common.{◌≡◌, suc, ◌⊎◌, List, [], ◌∷◌, length, sym, refl, ap, ◌∙◌, inl, inr}
use Rattle.std.specs.List.{AllByRecursion}
use Rattle.strategy.specs.Reordering.{TakenOut, Reordered}

pub only_from : {X : Type 0} (a x : X) → a ≡ x → Reordered (a ∷ []) (x ∷ [])
unfolding Reordered TakenOut
only_from a x e = ([], inl (e, refl), refl)

pub two_from : {X : Type 0} (a : X) (bs : List X) (x y : X) → ((a ≡ x) × Reordered bs (y ∷ [])) ⊎ ((a ≡ y) × Reordered bs (x ∷ [])) → Reordered (a ∷ bs) (x ∷ y ∷ [])
unfolding Reordered TakenOut
two_from a bs x y (inl (e, r)) = (y ∷ [], inl (e, refl), r)
two_from a bs x y (inr (e, r)) = (x ∷ [], inr ([], inl (e, refl), refl), r)

-- what holds of every element holds in any order
module _ {X : Type 0} (P : X → Type 0) where
  all_out : (x : X) (ys rest : List X) → TakenOut x ys rest → AllByRecursion P ys → P x × AllByRecursion P rest
  unfolding TakenOut
  all_out x [] rest t h = absurd t
  all_out x (y ∷ ys) rest (inl (e, r)) h = (rw e h.0, rw r h.1)
  all_out x (y ∷ ys) rest (inr (less, t, r)) h =
      let q : P x × AllByRecursion P less = all_out x ys less t h.1 in (q.0, rw r (h.0, q.1))

  all_in : (x : X) (ys rest : List X) → TakenOut x ys rest → P x → AllByRecursion P rest → AllByRecursion P ys
  unfolding TakenOut
  all_in x [] rest t p h = absurd t
  all_in x (y ∷ ys) rest (inl (e, r)) p h = (rw e at p, rw r at h)
  all_in x (y ∷ ys) rest (inr (less, t, r)) p h =
      let q : P y × AllByRecursion P less = rw r at h in (q.0, all_in x ys less t p q.1)

  pub all_from : (xs ys : List X) → Reordered xs ys → AllByRecursion P ys → AllByRecursion P xs
  unfolding Reordered
  all_from [] ys r h = tt
  all_from (x ∷ xs) ys (rest, t, r) h =
      let q : P x × AllByRecursion P rest = all_out x ys rest t h in (q.0, all_from xs rest r q.1)

  pub all_to : (xs ys : List X) → Reordered xs ys → AllByRecursion P xs → AllByRecursion P ys
  unfolding Reordered
  all_to [] ys r h = rw r tt
  all_to (x ∷ xs) ys (rest, t, r) h = all_in x ys rest t h.0 (all_to xs rest r h.1)

pub length_out : {X : Type 0} (x : X) (ys rest : List X) → TakenOut x ys rest → length ys ≡ suc (length rest)
unfolding TakenOut
length_out x [] rest t = absurd t
length_out x (y ∷ ys) rest (inl (e, r)) = ap suc (ap length (sym r))
length_out {X} x (y ∷ ys) rest (inr (less, t, r)) =
    let h : length ys ≡ suc (length less) = length_out x ys less t in
    let k : length rest ≡ suc (length less) = ap length r in ap suc (h ∙ sym k)

pub length_reordered : {X : Type 0} (xs ys : List X) → Reordered xs ys → length xs ≡ length ys
unfolding Reordered
length_reordered [] ys r = ap length (sym r)
length_reordered (x ∷ xs) ys (rest, t, r) = ap suc (length_reordered xs rest r) ∙ sym (length_out x ys rest t)
