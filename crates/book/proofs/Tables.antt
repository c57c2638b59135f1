-- What a book holds: its totals, and an order found in it.
use Rattle.std.proofs.Common.{◌≡◌, ℕ, ◌*◌, ◌<◌, ◌≤◌, true, eqb, List, [], ◌∷◌, ◌++◌, length, get_or, sum_by, Some, None, sym, refl, ap, ◌∙◌, arith}
use Rattle.std.specs.List.{position, position_or_len}
use Rattle.std.proofs.lemmas.Grind.{common_steps}
use Rattle.std.proofs.lemmas.Bool.{and_parts, leb-true, eqb-true}
use Rattle.std.proofs.lemmas.List.Sums.{sum_by-cons, sum_by-le}
use Rattle.std.proofs.lemmas.List.Folds.{find_at}
use Rattle.std.proofs.lemmas.List.Quantifiers.{position-Some}
use Rattle.std.proofs.lemmas.Option.{slice_get_past}
use Rattle.orders.specs.declared.turned.TurnedOrder.{TurnedOrder}
use Rattle.book.specs.declared.book.Book.{Book}
use Rattle.book.specs.declared.order.RestingOrder.{RestingOrder}
use Rattle.orders.specs.Quantities.{in_range}
use Rattle.book.specs.Resting.{resting_of, of_terms, rest, put, open_units, open_up_to, one, resting_up_to}
use Rattle.book.specs.Tables.{orderly, look}
use Rattle.book.specs.Books.{in_use, resting, last}
use Rattle.book.proofs.Looks.{look_high, look_at, units_at, look_push, orderly_push}
use Rattle.book.proofs.Totals.{sums}

pub range_high : (u : ℕ) → in_range u ≡ true → u ≤ 10000
range_high u h = leb-true u 10000 (and_parts _ _ h).1

ones : (os : List RestingOrder) → sum_by (λ o. 1) os ≡ length os
ones [] = refl
ones (o ∷ os) = let e = sum_by-cons (λ (x : RestingOrder). 1) o os in let f = ones os in omega arith

module _ (b : Book) where
  pub none_above : (k : ℕ) → last b < k → resting b k ≡ None
  none_above k lt = look_high 0 b.given k (in_use b) b.orderly lt

  pub count_is : length (in_use b) ≡ resting_up_to (resting b) (last b)
  count_is = sym (sums one refl 0 b.given b.given (in_use b) b.orderly (omega arith) ∙ ones (in_use b))

  pub total_is : sum_by (λ o. o.remaining) (in_use b) ≡ open_up_to (resting b) (last b)
  total_is = sym (sums open_units refl 0 b.given b.given (in_use b) b.orderly (omega arith))

  pub total_few : sum_by (λ o. o.remaining) (in_use b) ≤ length (in_use b) * 10000
  total_few = sum_by-le (λ o. o.remaining) 10000 (in_use b) (λ i d lt. range_high _ (units_at d 0 b.given (in_use b) i b.orderly lt))

  -- no order has the number n
  pub no_place : (n : ℕ) → position (λ o. eqb o.number n) (in_use b) ≡ None → resting b n ≡ None
  no_place n e =
      let p : RestingOrder → _ = λ o. eqb o.number n in
      let past : length (in_use b) ≤ position_or_len p (in_use b) = grind (arith, common_steps) in
      ap rest (find_at p (in_use b) ∙ slice_get_past (in_use b) (position_or_len p (in_use b)) past)

-- the order n stands at the place i; d is any default
module _ (b : Book) (n i : ℕ) (at : position (λ o. eqb o.number n) (in_use b) ≡ Some i) (d : RestingOrder) where
  abbrev this : RestingOrder
  this = get_or (in_use b) i d

  pub inside : i < length (in_use b)
  inside = (position-Some (λ o. eqb o.number n) (in_use b) i d at).0

  pub named : this.number ≡ n
  named = eqb-true this.number n (position-Some (λ o. eqb o.number n) (in_use b) i d at).1

  pub resting_is : resting b n ≡ Some (resting_of this)
  resting_is = ap (resting b) (sym named) ∙ look_at d 0 b.given (in_use b) i b.orderly inside

  pub range_is : in_range this.remaining ≡ true
  range_is = units_at d 0 b.given (in_use b) i b.orderly inside

-- a new order, under a number above all
module _ (b : Book) (n units : ℕ) (t : TurnedOrder) (lt : b.given < n) where
  abbrev new : RestingOrder
  new = record { number = n; remaining = units; terms = t }

  pub orderly_more : in_range units ≡ true → orderly 0 n (in_use b ++ new ∷ []) ≡ true
  orderly_more r = orderly_push 0 b.given (in_use b) new b.orderly lt r

  pub look_more : (q : ℕ) → units ≡ q → look (in_use b ++ new ∷ []) ≡ put (resting b) n (Some (of_terms n q t))
  look_more q e = λ i k. (look_push 0 b.given (in_use b) k new b.orderly lt ∙ ap (λ u. put (resting b) n (Some (of_terms n u t)) k) e) i
