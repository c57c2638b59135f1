-- Places counted from one more.
use Rattle.std.proofs.Common.{◌≡◌, ℕ, ◌+◌, Bool, true, false, cond, List, [], ◌∷◌, Some, Option, refl, ap, ◌∙◌}
use Rattle.std.specs.Option.{option_map}
use Rattle.std.specs.List.{position_from}

module _ {A : Type 0} (p : A → Bool) where
  place_later : (n : ℕ) (xs : List A) → option_map (λ k. k + 1) (position_from p n xs) ≡ position_from p (n + 1) xs
  place_later n [] = refl
  place_later n (x ∷ xs) = elim (p x) as (λ b. option_map (λ k. k + 1) (cond b (Some n) (position_from p (n + 1) xs)) ≡ cond b (Some (n + 1)) (position_from p (n + 1 + 1) xs)) [ true ↦ refl | false ↦ place_later (n + 1) xs ]

  pub placed : (xs : List A) (r : Option ℕ) → r ≡ position_from p 0 xs → option_map (λ k. k + 1) r ≡ position_from p 1 xs
  placed xs r e = ap (option_map (λ k. k + 1)) e ∙ place_later 0 xs
