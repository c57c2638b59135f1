-- What a fill leaves in the gate and in the market.
use Rattle.std.proofs.Common.{◌≡◌, ℕ, ◌-◌, min, true, false, cond, ltb, leb, List, [], ◌∷◌, ◌++◌, map, length, ℤ, pos, is_ok, IfOk, Some, None, Ok, Err, Option, Result, sym, ap, ◌∙◌, arith, MatchResult}
use Rattle.std.proofs.lemmas.List.{map-append, length-map}
use Rattle.std.proofs.lemmas.Bool.{leb-false, lt-ltb}
use Rattle.strategy.specs.Few.{listed}
use Rattle.strategy.specs.declared.legs.Legs.{Legs}
use Rattle.market.specs.declared.quote.QuoteSide.{QuoteSide}
use Rattle.market.specs.declared.leg.TradedLeg.{TradedLeg}
use Rattle.market.specs.Levels.{Levels}
use Rattle.market.specs.Takes.{can_take_legs, legs_taken}
use Rattle.orders.specs.TurnedTerms.{terms_of}
use Rattle.book.specs.declared.order.RestingOrder.{RestingOrder}
use Rattle.book.specs.Resting.{Resting, put, reduced, leaving, one, resting_of}
use Rattle.fills.specs.declared.fill.Fill.{Fill}
use Rattle.fills.specs.Fills.{taken_side}
use Rattle.fills.specs.Fillings.{filling_of}
use Rattle.fills.specs.FillingLaws.{IsFilling}
use Rattle.fills.proofs.Fillings.{filled}
use Rattle.fills.proofs.Units.{after_takes}
use Rattle.days.specs.declared.tape.TapeLine.{TapeLine}
use Rattle.days.specs.State.{State, Line, line_of, in_force, lookup, with_orders}
use Rattle.days.specs.Cancels.{cancelled_in}
use Rattle.days.specs.Works.{legs_of, filled_in, filled_from}
use Rattle.gate_calls.specs.Promises.{quoted_for, line_with}

-- the case of an answer that is no refusal
ok_case : {A B : Type 0} (r : Result A B) (P : A → Type 0) (Q : B → Type 0) → is_ok r ≡ true → MatchResult r P Q → (x : A) × P x
ok_case (Ok x) P Q e h = (x, h)
ok_case (Err y) P Q e h = let z : ◌≡◌ {A = ℕ} 0 1 = cc in absurd (omega arith)

-- A line more on a tape that has room

pub has_room : (room : ℕ) (items : List TapeLine) → leb (min 4096 room) (length (map line_of items)) ≡ false → ltb (length items) room ≡ true
has_room room items free = lt-ltb (length items) room (omega (arith, leb-false (min 4096 room) (length (map line_of items)) free, length-map items line_of))

pub pushed : {E : Type 0} (room : ℕ) (items after : List TapeLine) (x : TapeLine) (f : Line) (r : Result (Unit {0}) E) (Q : E → Type 0) → leb (min 4096 room) (length (map line_of items)) ≡ false
    → is_ok r ≡ ltb (length items) room → MatchResult r (λ _. after ≡ items ++ x ∷ []) Q → line_of x ≡ f → map line_of after ≡ map line_of items ++ f ∷ []
pushed room items after x f r Q free IfOk case is =
    let done = ok_case r (λ _. after ≡ items ++ x ∷ []) Q (IfOk ∙ has_room room items free) case in
    ap (map line_of) done.1 ∙ map-append line_of items (x ∷ []) ∙ ap (λ l. map line_of items ++ l ∷ []) is

-- a gate whose book and tape are as a fill says
pub settled : (s : State) (f : Line) (last count : ℕ) (order : ℕ → Option Resting) (tape : List Line) (room : ℕ) → last ≡ s.last → count ≡ s.count - leaving (s.order f.number) f.units
    → order ≡ put s.order f.number (reduced (s.order f.number) f.units) → tape ≡ s.tape ++ f ∷ [] → room ≡ s.tape_room
    → record { phase = s.phase; series = s.series; notices = s.notices; notice_room = s.notice_room; last = last; count = count; order = order; tape = tape; tape_room = room } ≡ filled_in s f
settled s f last count order tape room a b c d e =
    λ i. record { phase = s.phase; series = s.series; notices = s.notices; notice_room = s.notice_room; last = a i; count = b i; order = c i; tape = d i; tape_room = e i }

-- the levels after the takes of a fill
pub taken_from_lem : (s : State) (m after : Levels) (o : RestingOrder) (f : Fill) (q : QuoteSide) (given : Legs TradedLeg) → s.order o.number ≡ Some (resting_of o) → quoted_for s m o ≡ Ok (filling_of f)
    → q ≡ taken_side o.terms.side → given ≡ o.terms.legs.legs
    → after ≡ cond (can_take_legs m q f.units (listed given)) (legs_taken m q f.units (listed given)) m → after ≡ filled_from s m (line_with s o f)
taken_from_lem s m after o f q given held fits side legs takes =
    let has : IsFilling m (terms_of o.terms) o.remaining (filling_of f) = filled m (terms_of o.terms) o.remaining (in_force s.notices) o.terms.legs.sound (Ok (filling_of f)) (sym fits) in
    after_takes m after (taken_side o.terms.side) q f.units o.terms.legs.legs given o.terms.legs.sound has.shown side legs takes
    ∙ ap (λ v. legs_taken m (taken_side o.terms.side) f.units (legs_of v)) (sym held)

-- A cancel

pub withdrawn : (s : State) (z : ℤ) (n : ℕ) (o : Resting) (last count : ℕ) (order : ℕ → Option Resting) → z ≡ pos n → Some o ≡ lookup s.order z
    → last ≡ s.last → count ≡ s.count - one (s.order n) → order ≡ put s.order n None → with_orders s last count order ≡ cancelled_in s z
withdrawn s z n o last count order is held a b c =
    let rests : s.order n ≡ Some o = sym (held ∙ ap (lookup s.order) is) in
    (λ i. with_orders s (a i) ((b ∙ ap (λ v. s.count - one v) rests) i) (c i)) ∙ ap (cancelled_in s) (sym is)
