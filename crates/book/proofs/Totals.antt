-- Sums over all orders, by number and by place.
use Rattle.std.proofs.Common.{◌≡◌, ℕ, zero, suc, ◌+◌, ◌<◌, ◌≤◌, true, List, [], ◌∷◌, Option, None, Some, sym, refl, ap, ◌∙◌, ⊎_elim, arith, sum_by}
use Rattle.std.proofs.lemmas.Bool.{cases_eq}
use Rattle.std.proofs.lemmas.List.Sums.{sum_by-cons}
use Rattle.book.specs.declared.order.RestingOrder.{RestingOrder}
use Rattle.book.specs.Resting.{Resting, resting_of, sum_up_to}
use Rattle.book.specs.Tables.{orderly, look}
use Rattle.book.proofs.Looks.{parts, bounds, look_other, look_here, look_low}

-- f is g with one order more, under the number n
module _ (w : Option Resting → ℕ) (f g : ℕ → Option Resting) (n units : ℕ) (here : w (f n) ≡ units) (free : w (g n) ≡ 0) (others : (k : ℕ) → (n ≡ k → ⊥) → f k ≡ g k) where
  same_at : (k : ℕ) → (n ≡ k → ⊥) → w (f k) ≡ w (g k)
  same_at k ne = ap w (others k ne)

  at : (k : ℕ) → n ≡ k → w (f k) ≡ units + w (g k)
  at k e =
      let a : w (f k) ≡ units = ap (λ m. w (f m)) (sym e) ∙ here in
      let b : w (g k) ≡ 0 = ap (λ m. w (g m)) (sym e) ∙ free in
      omega arith

  below : (h : ℕ) → h < n → sum_up_to w f h ≡ sum_up_to w g h
  below zero lt = same_at zero (λ e. omega arith)
  below (suc h) lt =
      let a = same_at (suc h) (λ e. omega arith) in
      let b = below h (omega arith) in
      omega arith

  pub one_more : (h : ℕ) → n ≤ h → sum_up_to w f h ≡ units + sum_up_to w g h
  one_more zero le = at zero (omega arith)
  one_more (suc h) le =
      ⊎_elim
      (λ e. let a = at (suc h) e in let b = below h (omega arith) in omega arith)
      (λ ne. let a = same_at (suc h) ne in let b = one_more h (omega arith) in omega arith)
      (cases_eq n (suc h))

module _ (w : Option Resting → ℕ) (none : w None ≡ 0) where
  pub none_rest : (n : ℕ) → sum_up_to w (look []) n ≡ 0
  none_rest zero = none
  none_rest (suc n) = let e = none_rest n in omega arith

  -- both sums are the same
  pub sums : (low high top : ℕ) (os : List RestingOrder) → orderly low high os ≡ true → high ≤ top → sum_up_to w (look os) top ≡ sum_by (λ o. w (Some (resting_of o))) os
  sums low high top [] h le = none_rest top
  sums low high top (o ∷ os) h le =
      let p = (parts low high o os h).others in
      let b = bounds o.number high os p in
      one_more w (look (o ∷ os)) (look os) o.number (w (Some (resting_of o))) (ap w (look_here o os o.number refl))
      (ap w (look_low o.number high o.number os p (omega arith)) ∙ none) (λ k ne. look_other o os k ne) top (omega arith)
      ∙ ap (λ u. w (Some (resting_of o)) + u) (sums o.number high top os p le) ∙ sym (sum_by-cons (λ o. w (Some (resting_of o))) o os)
