-- The place of a price among ordered levels.
use Rattle.std.proofs.Common.{◌≡◌, ℕ, suc, ◌+◌, ◌<◌, ◌≤◌, true, false, cond, eqb, List, [], ◌∷◌, ◌++◌, length, get_or, take, drop, set, length-set, Ok, Err, Result, sym, refl, ap, ◌∙◌, subst, ⊎_elim, arith}
use Rattle.std.specs.List.{insert, remove, prefix_len, refill}
use Rattle.std.proofs.Math.Seq.{take-append_seam}
use Rattle.std.proofs.lemmas.Bool.{cases_Bool, eq-eqb, ne_eqb}
use Rattle.market.specs.declared.quote.QuoteSide.{QuoteSide}
use Rattle.market.specs.declared.quote.Level.{Level}
use Rattle.venues.specs.Ordered.{better}
use Rattle.venues.specs.Sizes.{place_of, stands, found_at, with_size}

-- what the place of a price says of a list in which it stands, or does not
module _ (s : QuoteSide) (p : ℕ) where
  pub place_le : (ls : List Level) → place_of s p ls ≤ length ls
  place_le [] = omega arith
  place_le (l ∷ ls) = ⊎_elim (λ e. rw e (let h = place_le ls in omega arith)) (λ e. rw e (omega arith)) (cases_Bool (better s l.price p))

  pub place_lt : (ls : List Level) → stands s p ls ≡ true → place_of s p ls < length ls
  place_lt [] q = let z : ◌≡◌ {A = ℕ} 0 1 = cc in absurd (omega arith)
  place_lt (l ∷ ls) q = ⊎_elim (λ e. rw e (let h = place_lt ls (rw e at q) in omega arith)) (λ e. rw e (omega arith)) (cases_Bool (better s l.price p))

  pub stands_here : (ls : List Level) (d : Level) → place_of s p ls < length ls → (get_or ls (place_of s p ls) d).price ≡ p → stands s p ls ≡ true
  stands_here [] d h q = absurd (omega arith)
  stands_here (l ∷ ls) d h q = ⊎_elim (λ e. rw e (stands_here ls d (let k = rw e at h in omega (arith, k)) (rw e at q))) (λ e. rw e (eq-eqb l.price p (rw e at q))) (cases_Bool (better s l.price p))

  pub stands_end : (ls : List Level) → length ls ≤ place_of s p ls → stands s p ls ≡ false
  stands_end [] h = refl
  stands_end (l ∷ ls) h = ⊎_elim (λ e. rw e (stands_end ls (let k = rw e at h in omega (arith, k)))) (λ e. absurd (let k = rw e at h in omega (arith, k))) (cases_Bool (better s l.price p))

  pub stands_other : (ls : List Level) (d : Level) → place_of s p ls < length ls → ((get_or ls (place_of s p ls) d).price ≡ p → ⊥) → stands s p ls ≡ false
  stands_other [] d h q = absurd (omega arith)
  stands_other (l ∷ ls) d h q = ⊎_elim (λ e. rw e (stands_other ls d (let k = rw e at h in omega (arith, k)) (rw e at q))) (λ e. rw e (ne_eqb l.price p (rw e at q))) (cases_Bool (better s l.price p))

  pub size_gone : (ls : List Level) → stands s p ls ≡ true → with_size s p 0 ls ≡ remove ls (place_of s p ls)
  size_gone [] q = let z : ◌≡◌ {A = ℕ} 0 1 = cc in absurd (omega arith)
  size_gone (l ∷ ls) q =
      ⊎_elim (λ e. rw e (ap (λ xs. l ∷ xs) (size_gone ls (rw e at q))))
      (λ e. rw (e, rw e at q)) (cases_Bool (better s l.price p))

  pub size_same : (ls : List Level) → stands s p ls ≡ false → with_size s p 0 ls ≡ ls
  size_same [] q = refl
  size_same (l ∷ ls) q =
      ⊎_elim (λ e. rw e (ap (λ xs. l ∷ xs) (size_same ls (rw e at q))))
      (λ e. rw (e, rw e at q)) (cases_Bool (better s l.price p))

  module _ (n : ℕ) (some : eqb n 0 ≡ false) where
    pub size_set : (ls : List Level) → stands s p ls ≡ true → with_size s p n ls ≡ set ls (place_of s p ls) (record { price = p; size = n })
    size_set [] q = let z : ◌≡◌ {A = ℕ} 0 1 = cc in absurd (omega arith)
    size_set (l ∷ ls) q =
        ⊎_elim (λ e. rw e (ap (λ xs. l ∷ xs) (size_set ls (rw e at q))))
        (λ e. rw (e, rw e at q, some)) (cases_Bool (better s l.price p))

    pub size_put : (ls : List Level) → stands s p ls ≡ false → with_size s p n ls ≡ insert ls (place_of s p ls) (record { price = p; size = n })
    size_put [] q = rw some
    size_put (l ∷ ls) q =
        ⊎_elim (λ e. rw e (ap (λ xs. l ∷ xs) (size_put ls (rw e at q))))
        (λ e. rw (e, rw e at q, some)) (cases_Bool (better s l.price p))

-- the place as a count of the levels in front of it
pub place_is : (s : QuoteSide) (p : ℕ) (ls : List Level) → prefix_len (λ l. better s l.price p) ls ≡ place_of s p ls
place_is s p [] = refl
place_is s p (l ∷ ls) = ap (λ n. cond (better s l.price p) n 0) (ap (λ n. 1 + n) (place_is s p ls) ∙ one_more (place_of s p ls))
  where
    one_more : (n : ℕ) → 1 + n ≡ suc n
    one_more n = omega arith

-- a level written in a slice of the levels
pub written : (ls xs : List Level) (i : ℕ) (l : Level) → xs ≡ ls → refill (length ls) ls (set xs i l) ≡ set ls i l
written ls xs i l e =
    ap (λ ys. refill (length ls) ls (set ys i l)) e
    ∙ ap (λ n. take n (set ls i l ++ drop (length (set ls i l)) ls)) (sym (length-set ls i l))
    ∙ take-append_seam (set ls i l) (drop (length (set ls i l)) ls)

-- what a place tells
module _ (s : QuoteSide) (p : ℕ) (ls : List Level) (i : ℕ) where
  pub place_here : stands s p ls ≡ true → i ≡ place_of s p ls → Ok i ≡ found_at s p ls
  place_here q e = rw q (ap Ok e)

  pub place_away : stands s p ls ≡ false → i ≡ place_of s p ls → Err i ≡ found_at s p ls
  place_away q e = rw q (ap Err e)

  pub found_here : Ok i ≡ found_at s p ls → (stands s p ls ≡ true) × (i ≡ place_of s p ls)
  found_here e = ⊎_elim (λ q. (q, let k : ◌≡◌ {A = Result ℕ ℕ} (Ok i) (Ok (place_of s p ls)) = rw q at e in cc)) (λ q. absurd (let k : ◌≡◌ {A = Result ℕ ℕ} (Ok i) (Err (place_of s p ls)) = rw q at e in let z : ◌≡◌ {A = ℕ} 0 1 = cc in omega arith)) (cases_Bool (stands s p ls))

  pub found_away : Err i ≡ found_at s p ls → (stands s p ls ≡ false) × (i ≡ place_of s p ls)
  found_away e = ⊎_elim (λ q. absurd (let k : ◌≡◌ {A = Result ℕ ℕ} (Err i) (Ok (place_of s p ls)) = rw q at e in let z : ◌≡◌ {A = ℕ} 0 1 = cc in omega arith)) (λ q. (q, let k : ◌≡◌ {A = Result ℕ ℕ} (Err i) (Err (place_of s p ls)) = rw q at e in cc)) (cases_Bool (stands s p ls))

-- what the first level that is not better tells, in the levels xs
module _ (s : QuoteSide) (p : ℕ) (ls xs : List Level) (same : xs ≡ ls) (i : ℕ) (e : i ≡ prefix_len (λ l. better s l.price p) ls) where
  at : i ≡ place_of s p ls
  at = e ∙ place_is s p ls

  module _ (l : Level) (h : i < length xs) (here : (d : Level) → l ≡ get_or xs i d) where
    inside : place_of s p ls < length ls
    inside = subst (λ k. k < length ls) at (subst (λ ys. i < length ys) same h)

    price : (get_or ls (place_of s p ls) l).price ≡ l.price
    price = ap (λ x. x.price) (sym (here l ∙ ap (λ ys. get_or ys i l) same ∙ ap (λ k. get_or ls k l) at))

    pub found_first : l.price ≡ p → Ok i ≡ found_at s p ls
    found_first q = place_here s p ls i (stands_here s p ls l inside (price ∙ q)) at

    pub found_other : (l.price ≡ p → ⊥) → Err i ≡ found_at s p ls
    found_other q = place_away s p ls i (stands_other s p ls l inside (λ r. q (sym price ∙ r))) at

  pub found_after : length xs ≤ i → Err i ≡ found_at s p ls
  found_after h = place_away s p ls i (stands_end s p ls (subst (λ k. length ls ≤ k) at (subst (λ ys. length ys ≤ i) same h))) at
