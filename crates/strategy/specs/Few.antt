-- Two to four legs, as a list.
use Rattle.std.specs.Prelude.{◌≡◌, ℕ, ◌+◌, List, [], ◌∷◌, map, Ok, Err, Result}
use Rattle.strategy.specs.declared.legs.Legs.{Legs}
use Rattle.strategy.specs.declared.legs.Legs.TheVariants.{Two, Three, Four}

abbrev pub listed : {T : Type 0} → Legs T → List T
listed (Two legs) = legs
listed (Three legs) = legs
listed (Four legs) = legs

-- each leg by f
abbrev pub each_leg : {A B : Type 0} → (A → B) → Legs A → Legs B
each_leg f (Two legs) = Two (map f legs)
each_leg f (Three legs) = Three (map f legs)
each_leg f (Four legs) = Four (map f legs)

-- the same answer, with f of its value where it is no error
abbrev pub map_ok : {A B E : Type 0} → (A → B) → Result A E → Result B E
map_ok f (Ok x) = Ok (f x)
map_ok f (Err e) = Err e

-- what f makes of a value, or the same error
abbrev pub and_then : {A B E : Type 0} → (A → Result B E) → Result A E → Result B E
and_then f (Ok x) = f x
and_then f (Err e) = Err e

-- each thing by g, which takes its place too, from n; or the first error
abbrev pub try_each : {A B E : Type 0} → (ℕ → A → Result B E) → ℕ → List A → Result (List B) E
try_each g n [] = Ok []
try_each g n (x ∷ xs) = and_then (λ y. map_ok (λ ys. y ∷ ys) (try_each g (n + 1) xs)) (g n x)

-- what R relates to a thing is what g gives
abbrev pub Gives : {A B : Type 0} → (A → B → Type 0) → (A → B) → Type 0
Gives {A} {B} R g = (x : A) (y : B) → R x y → y ≡ g x
