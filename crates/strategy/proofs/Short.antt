-- A short list by its elements.
use Rattle.std.proofs.Common.{◌≡◌, List, [], ◌∷◌, length, get_or, refl, arith}
use Rattle.strategy.specs.declared.leg.Kind.TheVariants.{Call}
use Rattle.strategy.specs.declared.leg.Leg.{Leg}
use Rattle.strategy.specs.Legs.{option, buy}

-- the leg that a read past the end of a list has
abbrev pub no_leg : Leg
no_leg = buy 0 (option 0 Call 0 0)

module _ {X : Type 0} where
  pub two_are : (xs : List X) (d₀ d₁ : X) → length xs ≡ 2 → xs ≡ get_or xs 0 d₀ ∷ get_or xs 1 d₁ ∷ []
  two_are [] d₀ d₁ n = absurd (omega arith)
  two_are (a ∷ []) d₀ d₁ n = absurd (omega arith)
  two_are (a ∷ b ∷ []) d₀ d₁ n = refl
  two_are (a ∷ b ∷ c ∷ more) d₀ d₁ n = absurd (omega arith)

  pub three_are : (xs : List X) (d₀ d₁ d₂ : X) → length xs ≡ 3 → xs ≡ get_or xs 0 d₀ ∷ get_or xs 1 d₁ ∷ get_or xs 2 d₂ ∷ []
  three_are [] d₀ d₁ d₂ n = absurd (omega arith)
  three_are (a ∷ []) d₀ d₁ d₂ n = absurd (omega arith)
  three_are (a ∷ b ∷ []) d₀ d₁ d₂ n = absurd (omega arith)
  three_are (a ∷ b ∷ c ∷ []) d₀ d₁ d₂ n = refl
  three_are (a ∷ b ∷ c ∷ d ∷ more) d₀ d₁ d₂ n = absurd (omega arith)

  pub four_are : (xs : List X) (d₀ d₁ d₂ d₃ : X) → length xs ≡ 4 → xs ≡ get_or xs 0 d₀ ∷ get_or xs 1 d₁ ∷ get_or xs 2 d₂ ∷ get_or xs 3 d₃ ∷ []
  four_are [] d₀ d₁ d₂ d₃ n = absurd (omega arith)
  four_are (a ∷ []) d₀ d₁ d₂ d₃ n = absurd (omega arith)
  four_are (a ∷ b ∷ []) d₀ d₁ d₂ d₃ n = absurd (omega arith)
  four_are (a ∷ b ∷ c ∷ []) d₀ d₁ d₂ d₃ n = absurd (omega arith)
  four_are (a ∷ b ∷ c ∷ d ∷ []) d₀ d₁ d₂ d₃ n = refl
  four_are (a ∷ b ∷ c ∷ d ∷ e ∷ more) d₀ d₁ d₂ d₃ n = absurd (omega arith)
