-- The lines of an input, and what they make of what answers them.
use Rattle.std.specs.Prelude.{◌≡◌, ℕ, List, [], ◌∷◌}
use Rattle.input.specs.Sources.{GetsLine}

-- The lines came one after another, the newest first; the bytes in `before` waited when the first one came, those in `after` still wait.
abbrev pub Came : List ℕ → List (List ℕ) → List ℕ → Type 0
Came before [] after = after ≡ before
Came before (line ∷ lines) after = (then : List ℕ) × Came before lines then × GetsLine then line after

-- the lines lead from s to t, one after another
abbrev pub Through : {S : Type 0} → (S → List ℕ → S → Type 0) → S → List (List ℕ) → S → Type 0
Through becomes s [] t = t ≡ s
Through becomes s (line ∷ lines) t = (u : _) × Through becomes s lines u × becomes u line t

-- all lines that came were answered, in their order, and nothing else
pub record Served {S : Type 0} (becomes : S → List ℕ → S → Type 0) (s t : S) : Type 0 where
  pub lines : List (List ℕ)
  pub came : Came [] lines []
  pub through : Through becomes s lines t
