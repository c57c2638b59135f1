-- What the induction keeps of the orders, and how calls keep it.
use Rattle.std.proofs.Common.{◌≡◌, ℕ, ◌+◌, ◌-◌, ◌<◌, ◌≤◌, true, cond, eqb, ltb, ◌⊎◌, List, [], ◌∷◌, ◌++◌, Some, None, Option, sym, refl, ap, ◌∙◌, subst, inl, inr, ⊎_elim, arith}
use Rattle.std.proofs.lemmas.Bool.{cases_eq, cond-true, cond-false, eq-eqb, ne_eqb, lt-ltb}
use Rattle.orders.specs.SoundLegs.{sound}
use Rattle.orders.specs.TurnedTerms.{turned_terms}
use Rattle.book.specs.Resting.{Resting, put, lessened, reduced, open_units}
use Rattle.book.proofs.Looks.{put_here, put_other}
use Rattle.days.specs.State.{Line}
use Rattle.days.specs.Entries.{entered_as, standing}
use Rattle.days.specs.History.{Event}
use Rattle.days.specs.Laws.{Entry, quantity_of, legs_of, Accepts, Accepted, units_on, cancelled, cancelled_by, or_else}
use Rattle.orders.proofs.Checked.{some_none, same_some}

-- an accepted order as it rests, with some units open
abbrev pub resting_as : ℕ → Entry → ℕ → Resting
resting_as n x units = standing n (turned_terms x.strategy (entered_as x.terms)) units

-- an order that rests was accepted with its terms
pub record Known (h : List Event) (n : ℕ) (o : Resting) : Type 0 where
  pub entry : Entry
  pub accepted : Accepted h n entry
  pub is : o ≡ resting_as n entry o.remaining
  pub some : 0 < o.remaining
  pub fit : sound (legs_of entry) ≡ true

-- nothing is known of a number that was not yet given
pub record Fresh (h : List Event) (order : ℕ → Option Resting) (tape : List Line) (n : ℕ) : Type 0 where
  pub absent : order n ≡ None
  pub unfilled : units_on tape n ≡ 0
  pub uncancelled : cancelled h n ≡ 0

pub record Orders (h : List Event) (last : ℕ) (order : ℕ → Option Resting) (tape : List Line) : Type 0 where
  pub known : (n : ℕ) (o : Resting) → order n ≡ Some o → Known h n o
  pub resting : (n : ℕ) (o : Resting) → order n ≡ Some o → cancelled h n ≡ 0
  pub fresh : (n : ℕ) → last < n → Fresh h order tape n
  pub low : (n : ℕ) (x : Entry) → Accepted h n x → n ≤ last
  pub once : (n : ℕ) (x y : Entry) → Accepted h n x → Accepted h n y → x ≡ y
  pub balance : (n : ℕ) (x : Entry) → Accepted h n x → quantity_of x ≡ units_on tape n + (open_units (order n) + cancelled h n)

-- A fill

units_more : (fs : List Line) (f : Line) (n : ℕ) → units_on (fs ++ f ∷ []) n ≡ units_on fs n + cond (eqb f.number n) f.units 0
units_more [] f n = omega arith
units_more (g ∷ gs) f n = omega (arith, units_more gs f n)

pub reduced_none : (o : Resting) (u : ℕ) → o.remaining ≡ u → reduced (Some o) u ≡ None
reduced_none o u e = cond-true (eqb o.remaining u) None _ (eq-eqb o.remaining u e)

pub reduced_some : (o : Resting) (u : ℕ) → u ≤ o.remaining → (o.remaining ≡ u → ⊥) → reduced (Some o) u ≡ Some (lessened o u)
reduced_some o u le ne =
    cond-false (eqb o.remaining u) None _ (ne_eqb o.remaining u ne)
    ∙ cond-true (ltb u o.remaining) (Some (lessened o u)) (Some o) (lt-ltb u o.remaining (omega arith))

left_over : (o : Resting) (u : ℕ) → u ≤ o.remaining → open_units (reduced (Some o) u) + u ≡ o.remaining
left_over o u le =
    ⊎_elim
    (λ e. omega (arith, ap open_units (reduced_none o u e)))
    (λ ne. omega (arith, ap open_units (reduced_some o u le ne)))
    (cases_eq o.remaining u)

-- an order that is left after a fill
still_known : (h : List Event) (n : ℕ) (o : Resting) (u : ℕ) (x : Resting) → Known h n o → u ≤ o.remaining → reduced (Some o) u ≡ Some x → Known h n x
still_known h n o u x k le e =
    ⊎_elim
    (λ all. absurd (some_none x (sym e ∙ reduced_none o u all)))
    (λ ne.
    let is : x ≡ lessened o u = sym (same_some (lessened o u) x (sym (reduced_some o u le ne) ∙ e)) in
    subst (Known h n) (sym is) (record {
      entry = k.entry;
      accepted = k.accepted;
      is = ap (λ (y : Resting). record { number = y.number; class = y.class; width = y.width; side = y.side; limit = y.limit; remaining = o.remaining - u; legs = y.legs }) k.is;
      some = omega arith;
      fit = k.fit;
    }))
    (cases_eq o.remaining u)

module _ (h : List Event) (last : ℕ) (order : ℕ → Option Resting) (tape : List Line) (k : Orders h last order tape) (f : Line) (o : Resting) (held : order f.number ≡ Some o) (le : f.units ≤ o.remaining) where
  abbrev next : ℕ → Option Resting
  next = put order f.number (reduced (order f.number) f.units)

  here : (n : ℕ) → f.number ≡ n → next n ≡ reduced (Some o) f.units
  here n e = put_here order f.number _ n e ∙ ap (λ v. reduced v f.units) held

  there : (n : ℕ) → (f.number ≡ n → ⊥) → next n ≡ order n
  there n ne = put_other order f.number _ n ne

  pub fill_orders : Orders h last next (tape ++ f ∷ [])
  fill_orders = record {
    known = λ n x e. ⊎_elim
        (λ at. subst (λ j. Known h j x) at (still_known h f.number o f.units x (k.known f.number o held) le (sym (here n at) ∙ e)))
        (λ ne. k.known n x (sym (there n ne) ∙ e))
        (cases_eq f.number n);
    resting = λ n x e. ⊎_elim
        (λ at. subst (λ j. cancelled h j ≡ 0) at (k.resting f.number o held))
        (λ ne. k.resting n x (sym (there n ne) ∙ e))
        (cases_eq f.number n);
    fresh = λ n lt.
        let was = k.fresh n lt in
        let ne : f.number ≡ n → ⊥ = λ at. some_none o (sym held ∙ ap order at ∙ was.absent) in
        let line = cond-false (eqb f.number n) f.units 0 (ne_eqb f.number n ne) in
        record { absent = there n ne ∙ was.absent; unfilled = omega (arith, units_more tape f n, line, was.unfilled); uncancelled = was.uncancelled };
    low = k.low;
    once = k.once;
    balance = λ n x a.
        let was = k.balance n x a in
        let more = units_more tape f n in
        ⊎_elim
        (λ at.
        let own = ap open_units (sym (ap order at) ∙ held) in
        let now = ap open_units (here n at) in
        let left = left_over o f.units le in
        let line = cond-true (eqb f.number n) f.units 0 (eq-eqb f.number n at) in
        omega arith)
        (λ ne.
        let now = ap open_units (there n ne) in
        let line = cond-false (eqb f.number n) f.units 0 (ne_eqb f.number n ne) in
        omega arith)
        (cases_eq f.number n);
  }

-- A call that accepts no order, and may make some leave

-- the units that the call e cancelled of the order n
abbrev pub cancels : Event → ℕ → Option ℕ
cancels e n = cancelled_by e.call e.reply e.before n

pub record Stays (e : Event) (order next : ℕ → Option Resting) (n : ℕ) : Type 0 where
  pub same : next n ≡ order n
  pub none : cancels e n ≡ None

pub record Leaves (e : Event) (order next : ℕ → Option Resting) (n : ℕ) : Type 0 where
  pub was : Resting
  pub held : order n ≡ Some was
  pub gone : next n ≡ None
  pub units : cancels e n ≡ Some was.remaining

older : (h : List Event) (e : Event) (n : ℕ) (o : Resting) → Known h n o → Known (e ∷ h) n o
older h e n o k = record { entry = k.entry; accepted = inr k.accepted; is = k.is; some = k.some; fit = k.fit }

module _ (h : List Event) (last : ℕ) (order : ℕ → Option Resting) (tape : List Line) (k : Orders h last order tape) (e : Event) (next : ℕ → Option Resting)
    (none : (n : ℕ) (x : Entry) → Accepts h e n x → ⊥) (each : (n : ℕ) → Stays e order next n ⊎ Leaves e order next n) where
  old : (n : ℕ) (x : Entry) → Accepted (e ∷ h) n x → Accepted h n x
  old n x (inl a) = absurd (none n x a)
  old n x (inr a) = a

  not-cancelled : (n : ℕ) → Stays e order next n → cancelled (e ∷ h) n ≡ cancelled h n
  not-cancelled n st = ap (λ v. or_else v (cancelled h n)) st.none

  now_cancelled : (n : ℕ) (l : Leaves e order next n) → cancelled (e ∷ h) n ≡ l.was.remaining
  now_cancelled n l = ap (λ v. or_else v (cancelled h n)) l.units

  pub leave_orders : Orders (e ∷ h) last next tape
  leave_orders = record {
    known = λ n o is. ⊎_elim
        (λ st. older h e n o (k.known n o (sym st.same ∙ is)))
        (λ l. absurd (some_none o (sym is ∙ l.gone)))
        (each n);
    resting = λ n o is. ⊎_elim
        (λ st. not-cancelled n st ∙ k.resting n o (sym st.same ∙ is))
        (λ l. absurd (some_none o (sym is ∙ l.gone)))
        (each n);
    fresh = λ n lt.
        let was = k.fresh n lt in
        ⊎_elim
        (λ st. record { absent = st.same ∙ was.absent; unfilled = was.unfilled; uncancelled = not-cancelled n st ∙ was.uncancelled })
        (λ l. absurd (some_none l.was (sym l.held ∙ was.absent)))
        (each n);
    low = λ n x a. k.low n x (old n x a);
    once = λ n x y a b. k.once n x y (old n x a) (old n y b);
    balance = λ n x a.
        let was = k.balance n x (old n x a) in
        ⊎_elim
        (λ st. omega (arith, was, ap open_units st.same, not-cancelled n st))
        (λ l. omega (arith, was, ap open_units l.held, ap open_units l.gone, now_cancelled n l, k.resting n l.was l.held))
        (each n);
  }

-- A call that accepts an order

module _ (h : List Event) (last : ℕ) (order : ℕ → Option Resting) (tape : List Line) (k : Orders h last order tape) (e : Event) (x : Entry)
    (accepts : Accepts h e (last + 1) x)
    (only : (n : ℕ) (y : Entry) → Accepts h e n y → (n ≡ last + 1) × (y ≡ x))
    (quiet : (n : ℕ) → cancels e n ≡ None)
    (some : 0 < quantity_of x) (fit : sound (legs_of x) ≡ true) where
  abbrev new : Resting
  new = resting_as (last + 1) x (quantity_of x)

  abbrev then : ℕ → Option Resting
  then = put order (last + 1) (Some new)

  at_new : (n : ℕ) → last + 1 ≡ n → then n ≡ Some new
  at_new n is = put_here order (last + 1) (Some new) n is

  at_old : (n : ℕ) → (last + 1 ≡ n → ⊥) → then n ≡ order n
  at_old n ne = put_other order (last + 1) (Some new) n ne

  same_cancelled : (n : ℕ) → cancelled (e ∷ h) n ≡ cancelled h n
  same_cancelled n = ap (λ v. or_else v (cancelled h n)) (quiet n)

  unique_entry : (n : ℕ) (y z : Entry) → Accepted (e ∷ h) n y → Accepted (e ∷ h) n z → y ≡ z
  unique_entry n y z (inl a) (inl b) = (only n y a).1 ∙ sym (only n z b).1
  unique_entry n y z (inl a) (inr b) = absurd (omega (arith, (only n y a).0, k.low n z b))
  unique_entry n y z (inr a) (inl b) = absurd (omega (arith, (only n z b).0, k.low n y a))
  unique_entry n y z (inr a) (inr b) = k.once n y z a b

  new_balance : (n : ℕ) (y : Entry) → Accepted (e ∷ h) n y → quantity_of y ≡ units_on tape n + (open_units (then n) + cancelled (e ∷ h) n)
  new_balance n y (inl a) =
      let both = only n y a in
      let fresh = k.fresh n (omega (arith, both.0)) in
      omega (arith, ap quantity_of both.1, ap open_units (at_new n (sym both.0)), same_cancelled n, fresh.unfilled, fresh.uncancelled)
  new_balance n y (inr a) =
      let low = k.low n y a in
      omega (arith, k.balance n y a, ap open_units (at_old n (λ is. omega arith)), same_cancelled n)

  new_low : (n : ℕ) (y : Entry) → Accepted (e ∷ h) n y → n ≤ last + 1
  new_low n y (inl a) = omega (arith, (only n y a).0)
  new_low n y (inr a) = omega (arith, k.low n y a)

  pub enter_orders : Orders (e ∷ h) (last + 1) then tape
  enter_orders = record {
    known = λ n o is. ⊎_elim
        (λ at.
        let same : o ≡ new = sym (same_some new o (sym (at_new n at) ∙ is)) in
        subst (λ j. Known (e ∷ h) j o) at (subst (Known (e ∷ h) (last + 1)) (sym same) (record { entry = x; accepted = inl accepts; is = refl; some = some; fit = fit })))
        (λ ne. older h e n o (k.known n o (sym (at_old n ne) ∙ is)))
        (cases_eq (last + 1) n);
    resting = λ n o is. ⊎_elim
        (λ at. same_cancelled n ∙ (k.fresh n (omega arith)).uncancelled)
        (λ ne. same_cancelled n ∙ k.resting n o (sym (at_old n ne) ∙ is))
        (cases_eq (last + 1) n);
    fresh = λ n lt.
        let was = k.fresh n (omega arith) in
        record { absent = at_old n (λ is. omega arith) ∙ was.absent; unfilled = was.unfilled; uncancelled = same_cancelled n ∙ was.uncancelled };
    low = new_low;
    once = unique_entry;
    balance = new_balance;
  }
