-- Look-ups by number in orders whose numbers rise.
use Rattle.std.proofs.Common.{◌≡◌, ℕ, zero, suc, ◌<◌, ◌≤◌, true, cond, ◌&&◌, eqb, ltb, List, [], ◌∷◌, ◌++◌, length, get_or, set, Some, None, Option, sym, refl, ap, ◌∙◌, ⊎_elim, arith}
use Rattle.std.specs.List.{find, remove}
use Rattle.std.proofs.lemmas.Bool.{and_parts, and_from, ltb-true, leb-true, lt-ltb, le-leb, eq-eqb, ne_eqb, cond-true, cond-false, cases_eq}
use Rattle.book.specs.declared.order.RestingOrder.{RestingOrder}
use Rattle.orders.specs.Quantities.{in_range}
use Rattle.book.specs.Resting.{Resting, resting_of, rest, put}
use Rattle.book.specs.Tables.{orderly, look}

-- the first of some orders
pub record First (low high : ℕ) (o : RestingOrder) (os : List RestingOrder) : Type 0 where
  pub above : low < o.number
  pub units : in_range o.remaining ≡ true
  pub others : orderly o.number high os ≡ true

pub parts : (low high : ℕ) (o : RestingOrder) (os : List RestingOrder) → orderly low high (o ∷ os) ≡ true → First low high o os
parts low high o os h =
    let p = and_parts (ltb low o.number) (in_range o.remaining && orderly o.number high os) h in
    let q = and_parts (in_range o.remaining) (orderly o.number high os) p.1 in
    record { above = ltb-true low o.number p.0; units = q.0; others = q.1 }

pub joined : (low high : ℕ) (o : RestingOrder) (os : List RestingOrder) → First low high o os → orderly low high (o ∷ os) ≡ true
joined low high o os f =
    and_from (ltb low o.number) (in_range o.remaining && orderly o.number high os) (lt-ltb low o.number f.above)
    (and_from (in_range o.remaining) (orderly o.number high os) f.units f.others)

-- one step of a look-up
pub look_other : (o : RestingOrder) (os : List RestingOrder) (k : ℕ) → (o.number ≡ k → ⊥) → look (o ∷ os) k ≡ look os k
look_other o os k ne = ap rest (cond-false (eqb o.number k) (Some o) (find (λ x. eqb x.number k) os) (ne_eqb o.number k ne))

pub look_here : (o : RestingOrder) (os : List RestingOrder) (k : ℕ) → o.number ≡ k → look (o ∷ os) k ≡ Some (resting_of o)
look_here o os k e = ap rest (cond-true (eqb o.number k) (Some o) (find (λ x. eqb x.number k) os) (eq-eqb o.number k e))

pub bounds : (low high : ℕ) (os : List RestingOrder) → orderly low high os ≡ true → low ≤ high
bounds low high [] h = leb-true low high h
bounds low high (o ∷ os) h =
    let f = parts low high o os h in
    let a = f.above in
    let b = bounds o.number high os f.others in
    omega arith

pub look_low : (low high k : ℕ) (os : List RestingOrder) → orderly low high os ≡ true → k ≤ low → look os k ≡ None
look_low low high k [] h le = refl
look_low low high k (o ∷ os) h le =
    let f = parts low high o os h in
    let a = f.above in
    look_other o os k (λ e. omega arith) ∙ look_low o.number high k os f.others (omega arith)

pub look_high : (low high k : ℕ) (os : List RestingOrder) → orderly low high os ≡ true → high < k → look os k ≡ None
look_high low high k [] h lt = refl
look_high low high k (o ∷ os) h lt =
    let p = (parts low high o os h).others in
    let b = bounds o.number high os p in
    look_other o os k (λ e. omega arith) ∙ look_high o.number high k os p lt

pub orderly_weaker : (a b high : ℕ) (os : List RestingOrder) → a ≤ b → orderly b high os ≡ true → orderly a high os ≡ true
orderly_weaker a b high [] le h = let l = leb-true b high h in le-leb a high (omega arith)
orderly_weaker a b high (o ∷ os) le h =
    let f = parts b high o os h in
    let l = f.above in
    joined a high o os (record { above = omega arith; units = f.units; others = f.others })

module _ (m : ℕ → Option Resting) (n : ℕ) (v : Option Resting) (k : ℕ) where
  pub put_here : n ≡ k → put m n v k ≡ v
  put_here e = cond-true (eqb n k) v (m k) (eq-eqb n k e)

  pub put_other : (n ≡ k → ⊥) → put m n v k ≡ m k
  put_other ne = cond-false (eqb n k) v (m k) (ne_eqb n k ne)

-- behind the order o, a change to g of the orders os at the number n
module _ (o : RestingOrder) (os os' : List RestingOrder) (n : ℕ) (v : Option Resting) (k : ℕ) (later : o.number < n) where
  look_behind : look os' k ≡ put (look os) n v k → look (o ∷ os') k ≡ put (look (o ∷ os)) n v k
  look_behind e =
      ⊎_elim
      (λ q. look_here o os' k q ∙ sym (put_other (look (o ∷ os)) n v k (λ g. omega arith) ∙ look_here o os k q))
      (λ ne. look_other o os' k ne ∙ e ∙ ap (λ w. cond (eqb n k) v w) (sym (look_other o os k ne)))
      (cases_eq o.number k)

-- what holds of the order at the place i; d is any default
module _ (d : RestingOrder) where
  pub number_above : (low high : ℕ) (os : List RestingOrder) (i : ℕ) → orderly low high os ≡ true → i < length os → low < (get_or os i d).number
  number_above low high [] i h lt = omega arith
  number_above low high (o ∷ os) zero h lt = (parts low high o os h).above
  number_above low high (o ∷ os) (suc i) h lt =
      let f = parts low high o os h in
      let a = f.above in
      let b = number_above o.number high os i f.others (omega arith) in
      omega arith

  pub units_at : (low high : ℕ) (os : List RestingOrder) (i : ℕ) → orderly low high os ≡ true → i < length os → in_range (get_or os i d).remaining ≡ true
  units_at low high [] i h lt = absurd (omega arith)
  units_at low high (o ∷ os) zero h lt = (parts low high o os h).units
  units_at low high (o ∷ os) (suc i) h lt = units_at o.number high os i (parts low high o os h).others (omega arith)

  pub look_at : (low high : ℕ) (os : List RestingOrder) (i : ℕ) → orderly low high os ≡ true → i < length os → look os (get_or os i d).number ≡ Some (resting_of (get_or os i d))
  look_at low high [] i h lt = absurd (omega arith)
  look_at low high (o ∷ os) zero h lt = look_here o os o.number refl
  look_at low high (o ∷ os) (suc i) h lt =
      let p = (parts low high o os h).others in
      let in' : i < length os = omega arith in
      let above = number_above o.number high os i p in' in
      look_other o os (get_or os i d).number (λ e. omega arith) ∙ look_at o.number high os i p in'

  -- the order at the place i leaves
  pub look_removed : (low high : ℕ) (os : List RestingOrder) (i k : ℕ) → orderly low high os ≡ true → i < length os → look (remove os i) k ≡ put (look os) (get_or os i d).number None k
  look_removed low high [] i k h lt = absurd (omega arith)
  look_removed low high (o ∷ os) zero k h lt =
      ⊎_elim
      (λ q. look_low o.number high k os (parts low high o os h).others (omega arith) ∙ sym (put_here (look (o ∷ os)) o.number None k q))
      (λ ne. sym (put_other (look (o ∷ os)) o.number None k ne ∙ look_other o os k ne))
      (cases_eq o.number k)
  look_removed low high (o ∷ os) (suc i) k h lt =
      let p = (parts low high o os h).others in
      let in' : i < length os = omega arith in
      look_behind o os (remove os i) (get_or os i d).number None k (number_above o.number high os i p in') (look_removed o.number high os i k p in')

  -- the order y takes its place, under the same number
  pub look_set : (low high : ℕ) (os : List RestingOrder) (i k : ℕ) (y : RestingOrder) → orderly low high os ≡ true → i < length os → y.number ≡ (get_or os i d).number → look (set os i y) k ≡ put (look os) y.number (Some (resting_of y)) k
  look_set low high [] i k y h lt same = absurd (omega arith)
  look_set low high (o ∷ os) zero k y h lt same =
      ⊎_elim
      (λ q. look_here y os k q ∙ sym (put_here (look (o ∷ os)) y.number (Some (resting_of y)) k q))
      (λ ne. look_other y os k ne ∙ sym (put_other (look (o ∷ os)) y.number (Some (resting_of y)) k ne ∙ look_other o os k (λ q. ne (same ∙ q))))
      (cases_eq y.number k)
  look_set low high (o ∷ os) (suc i) k y h lt same =
      let p = (parts low high o os h).others in
      let in' : i < length os = omega arith in
      let above = number_above o.number high os i p in' in
      look_behind o os (set os i y) y.number (Some (resting_of y)) k (omega arith) (look_set o.number high os i k y p in' same)

  pub orderly_set : (low high : ℕ) (os : List RestingOrder) (i : ℕ) (y : RestingOrder) → orderly low high os ≡ true → i < length os → y.number ≡ (get_or os i d).number → in_range y.remaining ≡ true → orderly low high (set os i y) ≡ true
  orderly_set low high [] i y h lt same r = absurd (omega arith)
  orderly_set low high (o ∷ os) zero y h lt same r =
      let f = parts low high o os h in
      let a = f.above in
      joined low high y os (record { above = omega arith; units = r; others = ap (λ z. orderly z high os) same ∙ f.others })
  orderly_set low high (o ∷ os) (suc i) y h lt same r =
      let f = parts low high o os h in
      joined low high o (set os i y) (record { above = f.above; units = f.units; others = orderly_set o.number high os i y f.others (omega arith) same r })

pub orderly_removed : (low high : ℕ) (os : List RestingOrder) (i : ℕ) → orderly low high os ≡ true → orderly low high (remove os i) ≡ true
orderly_removed low high [] zero h = h
orderly_removed low high [] (suc i) h = h
orderly_removed low high (o ∷ os) zero h =
    let f = parts low high o os h in
    let a = f.above in
    orderly_weaker low o.number high os (omega arith) f.others
orderly_removed low high (o ∷ os) (suc i) h =
    let f = parts low high o os h in
    joined low high o (remove os i) (record { above = f.above; units = f.units; others = orderly_removed o.number high os i f.others })

-- one order more, under a number above all
pub look_push : (low high : ℕ) (os : List RestingOrder) (k : ℕ) (x : RestingOrder) → orderly low high os ≡ true → high < x.number → look (os ++ x ∷ []) k ≡ put (look os) x.number (Some (resting_of x)) k
look_push low high [] k x h lt = ⊎_elim (λ q. look_here x [] k q ∙ sym (put_here (look []) x.number (Some (resting_of x)) k q)) (λ ne. look_other x [] k ne ∙ sym (put_other (look []) x.number (Some (resting_of x)) k ne)) (cases_eq x.number k)
look_push low high (o ∷ os) k x h lt =
    let p = (parts low high o os h).others in
    let b = bounds o.number high os p in
    look_behind o os (os ++ x ∷ []) x.number (Some (resting_of x)) k (omega arith) (look_push o.number high os k x p lt)

pub orderly_push : (low high : ℕ) (os : List RestingOrder) (x : RestingOrder) → orderly low high os ≡ true → high < x.number → in_range x.remaining ≡ true → orderly low x.number (os ++ x ∷ []) ≡ true
orderly_push low high [] x h lt r =
    let b = leb-true low high h in
    joined low x.number x [] (record { above = omega arith; units = r; others = le-leb x.number x.number (omega arith) })
orderly_push low high (o ∷ os) x h lt r =
    let f = parts low high o os h in
    joined low x.number o (os ++ x ∷ []) (record { above = f.above; units = f.units; others = orderly_push o.number high os x f.others lt r })
