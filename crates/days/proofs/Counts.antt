-- How many orders rest.
use Rattle.std.proofs.Common.{◌≡◌, ℕ, ◌+◌, ◌-◌, ◌≤◌, eqb, Some, None, Option, sym, refl, ap, ◌∙◌, ⊎_elim, add-one, arith}
use Rattle.std.proofs.lemmas.Bool.{cases_eq, cond-true, cond-false, eq-eqb, ne_eqb}
use Rattle.book.specs.Resting.{Resting, put, reduced, leaving, one, resting_up_to}
use Rattle.book.proofs.Looks.{put_here, put_other}
use Rattle.book.proofs.Totals.{one_more}
use Rattle.days.proofs.Orders.{reduced_none, reduced_some}

count_put : (f : ℕ → Option Resting) (n : ℕ) (v : Option Resting) (k : ℕ) → n ≤ k → resting_up_to (put f n v) k + one (f n) ≡ resting_up_to f k + one v
count_put f n v k le =
    let g : ℕ → Option Resting = put f n None in
    let free = ap one (put_here f n None n refl) in
    let new = one_more one (put f n v) g n (one v) (ap one (put_here f n v n refl)) free (λ j ne. put_other f n v j ne ∙ sym (put_other f n None j ne)) k le in
    let old = one_more one f g n (one (f n)) refl free (λ j ne. sym (put_other f n None j ne)) k le in
    omega arith

pub count_new : (f : ℕ → Option Resting) (last : ℕ) (o : Resting) → resting_up_to (put f (last + 1) (Some o)) (last + 1) ≡ resting_up_to f last + 1
count_new f last o =
    let more = count_put f (last + 1) (Some o) (last + 1) (omega arith) in
    omega (arith, ap (resting_up_to f) (add-one last), ap (λ k. one (f k)) (add-one last))

-- after a fill
pub count_fill : (f : ℕ → Option Resting) (n last count u : ℕ) (o : Resting) → f n ≡ Some o → u ≤ o.remaining → n ≤ last → count ≡ resting_up_to f last → count - leaving (f n) u ≡ resting_up_to (put f n (reduced (f n) u)) last
count_fill f n last count u o held small le is =
    let more = count_put f n (reduced (f n) u) last le in
    let was = ap one held in
    ⊎_elim
    (λ e.
    let gone = ap (λ v. leaving v u) held ∙ cond-true (eqb o.remaining u) 1 0 (eq-eqb o.remaining u e) in
    let left = ap (λ v. one (reduced v u)) held ∙ ap one (reduced_none o u e) in
    omega arith)
    (λ ne.
    let gone = ap (λ v. leaving v u) held ∙ cond-false (eqb o.remaining u) 1 0 (ne_eqb o.remaining u ne) in
    let left = ap (λ v. one (reduced v u)) held ∙ ap one (reduced_some o u small ne) in
    omega arith)
    (cases_eq o.remaining u)

-- after a cancel
pub count_cancel : (f : ℕ → Option Resting) (n last count : ℕ) (o : Resting) → f n ≡ Some o → n ≤ last → count ≡ resting_up_to f last → count - 1 ≡ resting_up_to (put f n None) last
count_cancel f n last count o held le is = omega (arith, is, count_put f n None last le, ap one held)
