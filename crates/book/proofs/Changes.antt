-- What a fill or a cancel of the order n leaves.
use Rattle.std.proofs.Common.{◌≡◌, ℕ, ◌-◌, ◌<◌, true, eqb, ltb, List, length, get_or, set, Some, None, Option, sym, refl, ap, ◌∙◌, ⊎_elim, arith}
use Rattle.std.specs.List.{position, refill, remove}
use Rattle.std.proofs.lemmas.List.{get_or_default, length-set}
use Rattle.arrayvec.specs.ArrayVec.{ArrayVec}
use Rattle.arrayvec.proofs.ArrayVecLemmas.{items-with_items}
use Rattle.std.proofs.lemmas.Bool.{and_from, le-leb, cases_eq, cond-true, cond-false, eq-eqb, ne_eqb, lt-ltb, le-ltb}
use Rattle.book.specs.declared.book.Book.{Book}
use Rattle.book.specs.declared.order.RestingOrder.{RestingOrder}
use Rattle.book.specs.Resting.{Resting, resting_of, put, reduced, leaving}
use Rattle.book.specs.Tables.{orderly, look}
use Rattle.book.specs.Books.{in_use, resting}
use Rattle.book.proofs.Looks.{put_here, put_other, look_removed, look_set, orderly_set}
use Rattle.book.proofs.Tables.{range_high, inside, named, resting_is, range_is}

put_own : (m : ℕ → Option Resting) (n : ℕ) (v : Option Resting) → v ≡ m n → m ≡ put m n v
put_own m n v e = λ i k. sym (⊎_elim (λ q. put_here m n v k q ∙ e ∙ ap m q) (λ ne. put_other m n v k ne) (cases_eq n k)) i

-- no order has the number n
pub none_changed : (b : Book) (n : ℕ) → resting b n ≡ None → resting b ≡ put (resting b) n None
none_changed b n e = put_own (resting b) n None (sym e)

pub none_reduced : (b : Book) (n : ℕ) → resting b n ≡ None → (units : ℕ) → resting b ≡ put (resting b) n (reduced (resting b n) units)
none_reduced b n e units = put_own (resting b) n (reduced (resting b n) units) (ap (λ r. reduced r units) e ∙ sym e)

abbrev pub less : RestingOrder → ℕ → RestingOrder
less o units = record { number = o.number; remaining = o.remaining - units; terms = o.terms }

-- what a write at the place i leaves; d, e and f are any defaults
pub written : (v : ArrayVec RestingOrder) (now : List RestingOrder) (i units : ℕ) (d e f : RestingOrder) → now ≡ v.items → i < length v.items →
    refill (length v.items) v.items (set now i (record { number = (get_or now i e).number; remaining = (get_or now i f).remaining - units; terms = (get_or now i e).terms })) ≡ set v.items i (less (get_or v.items i d) units)
written v now i units d e f same lt = items-with_items v (set now i _) (simp length-set (ap length same)) ∙ rw (same, get_or_default v.items i e d lt, get_or_default v.items i f d lt) refl

-- the order n stands at the place i
module _ (b : Book) (n i : ℕ) (at : position (λ o. eqb o.number n) (in_use b) ≡ Some i) (d : RestingOrder) where
  abbrev this : RestingOrder
  this = get_or (in_use b) i d

  pub leaves : look (remove (in_use b) i) ≡ put (resting b) n None
  leaves = λ j k. (look_removed d 0 b.given (in_use b) i k b.orderly (inside b n i at d) ∙ ap (λ m. put (resting b) m None k) (named b n i at d)) j

  -- units of it are filled
  module _ (units : ℕ) where
    at_this : reduced (resting b n) units ≡ reduced (Some (resting_of this)) units
    at_this = ap (λ v. reduced v units) (resting_is b n i at d)

    pub leaving_one : units ≡ this.remaining → leaving (resting b n) units ≡ 1
    leaving_one q = ap (λ v. leaving v units) (resting_is b n i at d) ∙ cond-true (eqb this.remaining units) 1 0 (eq-eqb this.remaining units (sym q))

    pub leaving_none : (units ≡ this.remaining → ⊥) → leaving (resting b n) units ≡ 0
    leaving_none ne = ap (λ v. leaving v units) (resting_is b n i at d) ∙ cond-false (eqb this.remaining units) 1 0 (ne_eqb this.remaining units (λ q. ne (sym q)))

    -- all of them
    pub leaves_filled : units ≡ this.remaining → look (remove (in_use b) i) ≡ put (resting b) n (reduced (resting b n) units)
    leaves_filled q = leaves ∙ ap (put (resting b) n) (sym (at_this ∙ cond-true (eqb this.remaining units) None _ (eq-eqb this.remaining units (sym q))))

    -- some of them
    reduced_some : units < this.remaining → reduced (resting b n) units ≡ Some (resting_of (less this units))
    reduced_some l =
        at_this ∙ cond-false (eqb this.remaining units) None _ (ne_eqb this.remaining units (λ q. omega arith))
        ∙ cond-true (ltb units this.remaining) _ _ (lt-ltb units this.remaining l)

    pub stays : units < this.remaining → look (set (in_use b) i (less this units)) ≡ put (resting b) n (reduced (resting b n) units)
    stays l = λ j k. (look_set d 0 b.given (in_use b) i k (less this units) b.orderly (inside b n i at d) refl
        ∙ ap (λ m. put (resting b) m (Some (resting_of (less this units))) k) (named b n i at d) ∙ ap (λ v. put (resting b) n v k) (sym (reduced_some l))) j

    pub orderly_less : units < this.remaining → orderly 0 b.given (set (in_use b) i (less this units)) ≡ true
    orderly_less l =
        let top = range_high this.remaining (range_is b n i at d) in
        orderly_set d 0 b.given (in_use b) i (less this units) b.orderly (inside b n i at d) refl (and_from _ _ (le-leb 1 (this.remaining - units) (omega arith)) (le-leb (this.remaining - units) 10000 (omega arith)))

    -- more than remain
    pub unchanged : this.remaining < units → resting b ≡ put (resting b) n (reduced (resting b n) units)
    unchanged l =
        put_own (resting b) n (reduced (resting b n) units)
        (at_this ∙ cond-false (eqb this.remaining units) None _ (ne_eqb this.remaining units (λ q. omega arith))
        ∙ cond-false (ltb units this.remaining) _ _ (le-ltb units this.remaining (omega arith)) ∙ sym (resting_is b n i at d))
