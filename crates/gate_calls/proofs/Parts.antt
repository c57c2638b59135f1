-- The notice in force, and numbers that no order has.
use Rattle.std.proofs.Common.{◌≡◌, suc, ◌-◌, ◌^◌, ◌<◌, List, [], ◌∷◌, length, get_or, ℤ, pos, negsuc, Some, None, Ok, Err, Option, Result, sym, refl, ap, ◌∙◌, subst, ⊎_elim, arith}
use Rattle.std.specs.Int.{FitsUnsignedBits}
use Rattle.std.specs.List.{slice_get}
use Rattle.std.specs.Option.{UnwrapsOrElse, ok_or}
use Rattle.std.specs.Result.{OkIff, result_ok}
use Rattle.std.proofs.lemmas.Option.{slice_get-get_or}
use Rattle.std.proofs.lemmas.Bool.{cases_lt}
use Rattle.strategy.specs.declared.price.Buffers.{Buffers}
use Rattle.orders.proofs.Checked.{err_ok, some_none}
use Rattle.book.specs.declared.book.Book.{Book}
use Rattle.book.specs.Books.{resting, in_use}
use Rattle.book.proofs.Looks.{look_high}
use Rattle.days.specs.State.{last_of, lookup}

-- the last of some notices
pub last_at : (b : Buffers) (xs : List Buffers) (d : Buffers) → 0 < length xs → get_or xs (length xs - 1) d ≡ last_of b xs
last_at b [] d h = absurd (omega arith)
last_at b (x ∷ []) d h = refl
last_at b (x ∷ (y ∷ ys)) d h =
    let past : length (x ∷ (y ∷ ys)) - 1 ≡ suc (length ys) = omega arith in
    let rest : length ys ≡ length (y ∷ ys) - 1 = omega arith in
    ap (λ i. get_or (x ∷ (y ∷ ys)) i d) past ∙ ap (λ i. get_or (y ∷ ys) i d) rest ∙ last_at x (y ∷ ys) d (omega arith)

-- the last of some notices, or those by default
pub last_or_zeros : (b : Buffers) (P : Buffers → Type 0) (v : Option Buffers) (xs : List Buffers) (r : Buffers) → UnwrapsOrElse v P r → v ≡ slice_get xs (length xs - 1) → (P r → r ≡ b) → r ≡ last_of b xs
last_or_zeros b P v [] r h is zeros = zeros (subst (λ w. UnwrapsOrElse w P r) is h)
last_or_zeros b P v (x ∷ xs) r h is zeros =
    subst (λ w. UnwrapsOrElse w P r) (is ∙ slice_get-get_or (x ∷ xs) (length (x ∷ xs) - 1) b (omega arith)) h ∙ last_at b (x ∷ xs) b (omega arith)

-- no value came, so what a value needs does not hold
pub no_value : {A E : Type 0} (r : Result A E) (P : Type 0) (v : A) → result_ok r ≡ None → OkIff r P v → P → ⊥
no_value (Ok x) P v none h = absurd (some_none x none)
no_value (Err e) P v none h = h

-- a refusal for want of a value
pub missing : {A E : Type 0} (v : Option A) (refusal e : E) → ok_or v refusal ≡ Err e → (v ≡ None) × (e ≡ refusal)
missing None refusal e is = (refl, cc)
missing (Some x) refusal e is = absurd (err_ok e x (sym is))

-- a number past 16 bits, or below 0, is that of no order
pub none_named : (b : Book) (z : ℤ) → (FitsUnsignedBits 16 z → ⊥) → lookup (resting b) z ≡ None
none_named b (pos n) out =
    look_high 0 b.given n (in_use b) b.orderly
    (⊎_elim (λ low. absurd (out low)) (λ high. omega (arith, b.numbered)) (cases_lt n (2 ^ 16)))
none_named b (negsuc n) out = refl
