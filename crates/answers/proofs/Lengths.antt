-- How long an answer can be.
use Rattle.std.proofs.Common.{ℕ, suc, ◌*◌, ◌^◌, ◌<◌, ◌≤◌, List, [], ◌∷◌, length, ℤ, pos, negsuc, nat_abs, decimal, arith, length-append, w64, SFits}
use Rattle.std.proofs.lemmas.Fmt.{length-decimal-le}
use Rattle.std.specs.List.{AllByRecursion}
use Rattle.lines.specs.Forms.{Atom, number, spaced_atoms}
use Rattle.line_writer.specs.Lines.{render}
use Rattle.answers.specs.Said.{Short}

spaced : (atoms : List Atom) → AllByRecursion Short atoms → length (spaced_atoms atoms) ≤ 22 * length atoms
spaced [] h = omega arith
spaced (a ∷ atoms) h = let more = spaced atoms h.1 in simp length-append (omega (arith, h.0, more))

pub short_form : (head : List ℕ) (atoms : List Atom) → length head ≤ 9 → length atoms ≤ 6 → AllByRecursion Short atoms → length (render head atoms) ≤ 160
short_form head atoms h n p = let l = spaced atoms p in simp length-append (omega (arith, l))

pub short_count : (n : ℕ) → n < 2 ^ 64 → Short (number (pos n))
short_count n h = let l : length (decimal n) ≤ 20 = length-decimal-le 20 n (omega arith) (omega arith) (omega arith) in omega arith

pub short_cents : (z : ℤ) → nat_abs z < 2 ^ 64 → Short (number z)
short_cents (pos n) h = short_count n h
short_cents (negsuc n) h = let l : length (decimal (suc n)) ≤ 20 = length-decimal-le 20 (suc n) (omega arith) (omega arith) (omega arith) in omega arith

pub wide : (z : ℤ) → SFits w64 z → nat_abs z < 2 ^ 64
wide (pos n) h = omega (arith, h.sfits)
wide (negsuc n) h = omega (arith, h.sfits)

pub short_number : (z : ℤ) → SFits w64 z → Short (number z)
short_number z h = short_cents z (wide z h)
