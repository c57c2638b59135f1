-- Legs and their parts.
use Rattle.std.proofs.Common.{◌≡◌, ℕ, List, [], ◌∷◌, ◌++◌, sym, refl, ap, ◌∙◌, arith}
use Rattle.orders.specs.declared.records.LegTerms.{LegTerms}
use Rattle.commands.specs.Legs.{leg_parts, legs_parts}
use Rattle.commands.specs.Parts.{Part}

-- what follows some legs, in a list of legs, is legs
pub after_legs : (all whole : List LegTerms) (r : List Part) → legs_parts all ++ r ≡ legs_parts whole → (more : List LegTerms) × (r ≡ legs_parts more)
after_legs [] whole r e = (whole, e)
after_legs (x ∷ all) [] r e = let z : ◌≡◌ {A = ℕ} 0 1 = cc in absurd (omega arith)
after_legs (x ∷ all) (y ∷ whole) r e = after_legs all whole r (cc)

legs_push : (all : List LegTerms) (x : LegTerms) (r : List Part) → legs_parts all ++ (leg_parts x ++ r) ≡ legs_parts (all ++ x ∷ []) ++ r
legs_push [] x r = refl
legs_push (y ∷ all) x r = ap (λ ps. leg_parts y ++ ps) (legs_push all x r)

pub one_more : (all : List LegTerms) (x : LegTerms) (ps a b : List Part) → ps ≡ legs_parts all ++ a → a ≡ leg_parts x ++ b → ps ≡ legs_parts (all ++ x ∷ []) ++ b
one_more all x ps a b p q = p ∙ ap (λ r. legs_parts all ++ r) q ∙ legs_push all x b

-- no list of legs has these parts, since what is left is neither nothing nor begins with a leg
pub no_legs : (all : List LegTerms) (ps r : List Part) → ps ≡ legs_parts all ++ r → (r ≡ [] → ⊥) → ((x : LegTerms) (more : List Part) → r ≡ leg_parts x ++ more → ⊥) → (whole : List LegTerms) → ps ≡ legs_parts whole → ⊥
no_legs all ps r p some none whole e = split (after_legs all whole r (sym p ∙ e)).0 (after_legs all whole r (sym p ∙ e)).1 where
  split : (more : List LegTerms) → r ≡ legs_parts more → ⊥
  split [] q = some q
  split (x ∷ more) q = none x (legs_parts more) q
