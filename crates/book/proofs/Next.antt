-- The next order above a number.
use Rattle.std.proofs.Common.{◌≡◌, ℕ, zero, suc, ◌<◌, ◌≤◌, true, false, leb, ltb, List, [], ◌∷◌, length, get_or, Bor, is_some, IfSome, Some, None, Option, sym, refl, ◌∙◌, arith}
use Rattle.std.proofs.lemmas.Option.{slice_get_past, slice_get_read}
use Rattle.std.specs.List.{slice_get}
use Rattle.std.specs.Option.{option_copied}
use Rattle.std.specs.List.Sorted.{IsNonDecreasingBy, IsPartitionPoint}
use Rattle.std.proofs.lemmas.Bool.{leb-true, leb-false, ltb-true, ltb-false}
use Rattle.book.specs.declared.order.RestingOrder.{RestingOrder}
use Rattle.book.specs.Resting.{Resting, rest, NextOrderIs}
use Rattle.book.specs.Tables.{orderly, look}
use Rattle.book.proofs.Looks.{parts, bounds, look_other, look_here, look_low, number_above}

pub rising : (low high : ℕ) (os : List RestingOrder) → orderly low high os ≡ true → IsNonDecreasingBy (λ o. o.number) os
rising low high [] h i j d le lt = absurd (omega arith)
rising low high (o ∷ os) h zero zero d le lt = omega arith
rising low high (o ∷ os) h zero (suc j) d le lt = let a = number_above d o.number high os j (parts low high o os h).others (omega arith) in omega arith
rising low high (o ∷ os) h (suc i) zero d le lt = absurd (omega arith)
rising low high (o ∷ os) h (suc i) (suc j) d le lt = rising o.number high os (parts low high o os h).others i j d (omega arith) (omega arith)

-- an order in front, with no higher number, is not the next
behind : (o : RestingOrder) (os : List RestingOrder) (n : ℕ) (r : Option Resting) → o.number ≤ n → NextOrderIs (look os) n r → NextOrderIs (look (o ∷ os)) n r
behind o os n None le h = λ j lt. look_other o os j (λ e. omega arith) ∙ h j lt
behind o os n (Some x) le h =
    let a = h.above in
    record {
      above = h.above;
      rests = look_other o os x.number (λ e. omega arith) ∙ h.rests;
      lowest = λ j lt below. look_other o os j (λ e. omega arith) ∙ h.lowest j lt below;
    }

-- the point from which on all numbers are above n
pub next_at : (low high n i : ℕ) (os : List RestingOrder) → orderly low high os ≡ true → IsPartitionPoint (λ o. leb o.number n ≡ true) (λ o. leb o.number n ≡ false) os i
    → NextOrderIs (look os) n (rest (slice_get os i))
next_at low high n i [] h p = λ j lt. refl
next_at low high n zero (o ∷ os) h p =
    let a : n < o.number = leb-false o.number n (p.1 0 o (omega arith) (omega arith)) in
    record {
      above = a;
      rests = look_here o os o.number refl;
      lowest = λ j lt below. look_other o os j (λ e. omega arith) ∙ look_low o.number high j os (parts low high o os h).others (omega arith);
    }
next_at low high n (suc i) (o ∷ os) h p =
    behind o os n (rest (slice_get os i)) (leb-true o.number n (p.0 0 o (omega arith) (omega arith)))
    (next_at o.number high n i os (parts low high o os h).others (λ k d a b. p.0 (suc k) d (omega arith) (omega arith), λ k d a b. p.1 (suc k) d (omega arith) (omega arith)))

pub few_at : (low high i : ℕ) (os : List RestingOrder) → orderly low high os ≡ true → high ≤ 50000 → IfSome (slice_get os i) (λ o. o.number ≤ 50000)
few_at low high i [] h few = tt
few_at low high zero (o ∷ os) h few = let b = bounds o.number high os (parts low high o os h).others in omega arith
few_at low high (suc i) (o ∷ os) h few = few_at o.number high i os (parts low high o os h).others few

-- what `get` answers
pub got : (os : List RestingOrder) (i : ℕ) (r : Option (Bor RestingOrder)) → is_some r ≡ ltb i (length os) → IfSome r (λ x. x.now ≡ get_or os i x.now) → option_copied r ≡ slice_get os i
got os i None there is = sym (slice_get_past os i (ltb-false i (length os) (sym there)))
got os i (Some x) there is = sym (slice_get_read os (length os) i x.now refl (ltb-true i (length os) (sym there)) is)
