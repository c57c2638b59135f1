-- What an answer says of its checks.
use Rattle.std.proofs.Common.{◌≡◌, ℕ, Bool, true, false, ◌⊎◌, Some, None, Ok, Err, Option, Result, sym, refl, ap, subst, inl, inr, arith, MatchResult}
use Rattle.orders.specs.Checks.{check, check_at, map_ok}

pub by_cases : {A B : Type 0} (r : Result A B) (P : A → Type 0) (Q : B → Type 0) → MatchResult r P Q → ((x : A) × (r ≡ Ok x) × P x) ⊎ ((y : B) × (r ≡ Err y) × Q y)
by_cases (Ok x) P Q h = inl (x, refl, h)
by_cases (Err y) P Q h = inr (y, refl, h)

module _ {A B : Type 0} where
  pub err_ok : (f : B) (x : A) → ◌≡◌ {A = Result A B} (Err f) (Ok x) → ⊥
  err_ok f x e = let z : ◌≡◌ {A = ℕ} 0 1 = cc in omega arith

  pub same_ok : (x y : A) → ◌≡◌ {A = Result A B} (Ok x) (Ok y) → x ≡ y
  same_ok x y e = cc

  -- a check that was passed
  pub check_ok : (b : Bool) (f : B) (r : Result A B) (x : A) → check b f r ≡ Ok x → (b ≡ true) × (r ≡ Ok x)
  check_ok true f r x e = (refl, e)
  check_ok false f r x e = absurd (err_ok f x e)

  pub at_ok : (p : Option ℕ) (f : ℕ → B) (r : Result A B) (x : A) → check_at p f r ≡ Ok x → (p ≡ None) × (r ≡ Ok x)
  at_ok None f r x e = (refl, e)
  at_ok (Some k) f r x e = absurd (err_ok (f k) x e)

  pub map_ok_lem : {C : Type 0} (g : C → A) (r : Result C B) (x : A) → map_ok g r ≡ Ok x → (y : C) × (r ≡ Ok y) × (x ≡ g y)
  map_ok_lem g (Ok y) x e = (y, refl, cc)
  map_ok_lem g (Err f) x e = absurd (err_ok f x e)

  -- what holds of every refusal
  module _ (P : B → Type 0) where
    pub none_refused : (x : A) (g : B) → ◌≡◌ {A = Result A B} (Ok x) (Err g) → P g
    none_refused x g e = absurd (err_ok g x (sym e))

    pub check_all : (b : Bool) (f : B) (r : Result A B) → P f → ((g : B) → r ≡ Err g → P g) → (g : B) → check b f r ≡ Err g → P g
    check_all true f r p next g e = next g e
    check_all false f r p next g e = let same : f ≡ g = cc in subst P same p

    pub at_all : (p : Option ℕ) (f : ℕ → B) (r : Result A B) → ((k : ℕ) → P (f k)) → ((g : B) → r ≡ Err g → P g) → (g : B) → check_at p f r ≡ Err g → P g
    at_all None f r p next g e = next g e
    at_all (Some k) f r p next g e = let same : f k ≡ g = cc in subst P same (p k)

    pub map_all : {C : Type 0} (h : C → A) (r : Result C B) → ((g : B) → r ≡ Err g → P g) → (g : B) → map_ok h r ≡ Err g → P g
    map_all h (Ok y) next g e = none_refused (h y) g e
    map_all h (Err f) next g e = next g (let same : f ≡ g = cc in ap Err same)

pub some_none : {A : Type 0} (x : A) → ◌≡◌ {A = Option A} (Some x) None → ⊥
some_none x e = let z : ◌≡◌ {A = ℕ} 0 1 = cc in omega arith

pub same_some : {A : Type 0} (x y : A) → ◌≡◌ {A = Option A} (Some x) (Some y) → x ≡ y
same_some x y e = cc
