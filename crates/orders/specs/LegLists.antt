-- Any number of legs, abridged.
use Rattle.std.specs.Prelude.{Bool, true, false, List, [], ◌∷◌}
use Rattle.strategy.specs.declared.legs.Legs.TheVariants.{Two, Three, Four}
use Rattle.strategy.specs.Few.{listed}
use Rattle.orders.specs.declared.records.LegTerms.{LegTerms}
use Rattle.orders.specs.declared.records.LegList.{LegList}
use Rattle.orders.specs.declared.records.LegList.TheVariants.{Empty, One, Few, Many}

-- the legs where they are at most four, and else that they are many
abbrev pub abridged : List LegTerms → LegList
abridged [] = Empty
abridged (a ∷ []) = One a
abridged (a ∷ b ∷ []) = Few (Two (a ∷ b ∷ []))
abridged (a ∷ b ∷ c ∷ []) = Few (Three (a ∷ b ∷ c ∷ []))
abridged (a ∷ b ∷ c ∷ d ∷ []) = Few (Four (a ∷ b ∷ c ∷ d ∷ []))
abridged (a ∷ b ∷ c ∷ d ∷ e ∷ more) = Many

-- whether a list has two to four legs
abbrev pub is_few : LegList → Bool
is_few Empty = false
is_few (One a) = false
is_few (Few legs) = true
is_few Many = false

-- the legs of a list that has at most four
abbrev pub legs_of : LegList → List LegTerms
legs_of Empty = []
legs_of (One a) = a ∷ []
legs_of (Few legs) = listed legs
legs_of Many = []
