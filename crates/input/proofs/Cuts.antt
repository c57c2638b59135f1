-- Parts of a list of bytes, and its first line break.
use Rattle.std.proofs.Common.{◌≡◌, ℕ, suc, ◌+◌, ◌-◌, ◌<◌, ◌≤◌, min, List, ◌∷◌, ◌++◌, length, take, drop, slice_range, sym, refl, ap, ◌∙◌, ⊎_elim, add-one, arith, length-take, drop-cons}
use Rattle.std.proofs.lemmas.List.{take_all, take-take, take-append-drop, drop-take, drop-drop, get_or-take}
use Rattle.std.specs.List.{copy_within}
use Rattle.std.proofs.lemmas.List.Edits.{take-paste}
use Rattle.std.proofs.lemmas.Bool.{cases_lt}
use Rattle.input.specs.Breaks.{NoBreak, BreakAt, Splits}

-- of n bytes, the first 513
pub take_min : (n : ℕ) (xs : List ℕ) → take (min n 513) xs ≡ take 513 (take n xs)
take_min n xs =
    ⊎_elim
    (λ h.
    let e : min n 513 ≡ n = omega arith in
    ap (λ k. take k xs) e ∙ sym (take_all 513 (take n xs) (omega (arith, length-take n xs))))
    (λ h.
    let e : min n 513 ≡ 513 = omega arith in
    ap (λ k. take k xs) e ∙ sym (take-take 513 n xs h))
    (cases_lt n 513)

pub take_both : (m n : ℕ) (xs : List ℕ) → take (m + n) xs ≡ take m xs ++ take n (drop m xs)
take_both m n xs =
    sym (take-append-drop m (take (m + n) xs)) ∙ (λ i. take-take m (m + n) xs (omega arith) i ++ drop-take m n xs i)

pub from_zero : (i j : ℕ) (xs : List ℕ) → i ≡ 0 → take (j - i) (drop i xs) ≡ take j xs
from_zero i j xs e = let all : j - 0 ≡ j = omega arith in ap (λ k. take (j - k) (drop k xs)) e ∙ ap (λ k. take k xs) all

-- the first m of the bytes from i up to j
pub front_of : (i j m : ℕ) (xs : List ℕ) → m ≤ j - i → slice_range xs i (i + m) ≡ take m (slice_range xs i j)
front_of i j m xs h =
    let e : i + m - i ≡ m = omega arith in
    ap (λ k. take k (drop i xs)) e ∙ sym (take-take m (j - i) (drop i xs) h)

-- of the bytes from i up to j, the first 513
pub first_513 : (i j m : ℕ) (xs : List ℕ) → m ≡ min (length (slice_range xs i j)) 513 → slice_range xs i (i + m) ≡ take 513 (slice_range xs i j)
first_513 i j m xs e =
    let bytes = slice_range xs i j in
    let n = length bytes in
    front_of i j m xs (omega (arith, length-take (j - i) (drop i xs)))
    ∙ ap (λ k. take k bytes) e
    ∙ take_min n bytes
    ∙ ap (take 513) (take_all n bytes (omega arith))

-- those, moved to the front
pub moved : (i j m : ℕ) (xs ys : List ℕ) → i ≤ length xs → m ≡ min (length (slice_range xs i j)) 513 → ys ≡ copy_within xs i (i + m) 0 → slice_range ys 0 m ≡ take 513 (slice_range xs i j)
moved i j m xs ys h e is =
    let n = i + m - i in
    let same : m ≡ 0 + n = omega arith in
    from_zero 0 m ys refl
    ∙ ap (take m) is
    ∙ ap (λ k. take k (copy_within xs i (i + m) 0)) same
    ∙ take-paste xs 0 (drop i xs) n (omega arith) (omega (arith, length-take (j - i) (drop i xs)))
    ∙ first_513 i j m xs e

-- the bytes from i up to j, without the first k
pub later : (i j k : ℕ) (xs : List ℕ) → i + k ≤ j → drop k (take (j - i) (drop i xs)) ≡ take (j - (i + k)) (drop (i + k) xs)
later i j k xs h =
    let e : j - i ≡ k + (j - (i + k)) = omega arith in
    ap (λ m. drop k (take m (drop i xs))) e ∙ drop-take k (j - (i + k)) (drop i xs) ∙ ap (take (j - (i + k))) (drop-drop k i xs)

unbroken : (bytes : List ℕ) (n : ℕ) → BreakAt bytes n → NoBreak (take n bytes)
unbroken bytes n b k h e =
    let low : k < n = omega (arith, length-take n bytes) in
    b.first k low (sym (get_or-take n bytes k 0 low) ∙ e)

-- the line before the first break
pub split : (bytes : List ℕ) (n : ℕ) → BreakAt bytes n → Splits bytes (take (min n 513) bytes) (drop (n + 1) bytes)
split bytes n b =
    let h = b.inside in
    record {
      whole = take n bytes;
      unbroken = unbroken bytes n b;
      is = sym (take-append-drop n bytes) ∙ ap (λ xs. take n bytes ++ xs) (rw (add-one, drop-cons bytes n 0) (ap (λ c. c ∷ drop (suc n) bytes) b.here));
      start = take_min n bytes;
    }
