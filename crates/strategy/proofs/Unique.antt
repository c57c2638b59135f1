-- Legs have one class, one width and one turning: their number, their sides, what they pay and their expiries tell the long forms apart.
use Rattle.std.proofs.Common.{◌≡◌, ℕ, suc, ◌<◌, ◌≤◌, Bool, true, false, cond, eqb, ◌⊎◌, List, [], ◌∷◌, map, length, ℤ, pos, ◌+ℤ◌, neg_ℤ, ◌≤ℤ◌, ◌<ℤ◌, sym, refl, ap, ◌∙◌, inl, inr, arith}
use lib.ListN.{length-map}
use Rattle.std.specs.List.{AllByRecursion}
use Rattle.std.proofs.lemmas.Int.{ints}
use Rattle.std.proofs.lemmas.Bool.{ne_eqb}
use Rattle.strategy.specs.declared.leg.Kind.{Kind}
use Rattle.strategy.specs.declared.leg.Kind.TheVariants.{Call, Put}
use Rattle.strategy.specs.declared.leg.Side.{Side}
use Rattle.strategy.specs.declared.leg.Side.TheVariants.{Buy, Sell}
use Rattle.strategy.specs.declared.leg.Leg.{Leg}
use Rattle.strategy.specs.declared.class.Class.{Class}
use Rattle.strategy.specs.declared.class.Class.TheVariants.{Bought, Vertical, Calendar, Butterfly, BoxSpread, Other}
use Rattle.strategy.specs.declared.class.Strategy.{Strategy}
use Rattle.strategy.specs.Legs.{opposite, flipped, turned_legs}
use Rattle.strategy.specs.Forms.{vertical, calendar, butterfly, box, Long, Classified}
use Rattle.strategy.specs.Payoff.{signed, signed_sum, leg_paid, payoff}
use Rattle.strategy.proofs.Excluded.{length-vertical, length-calendar, length-butterfly, length-box}
use Rattle.strategy.proofs.Worth.{Worth, sum_reordered, vertical_worth, calendar_worth, butterfly_worth, box_worth}

-- how many more legs are bought than sold
abbrev one : Leg → ℕ
one l = 1

abbrev balance : List Leg → ℤ
balance legs = signed_sum one legs

abbrev expiry_of : Leg → ℕ
expiry_of l = l.series.expiry

signed_opposite : (s : Side) (n : ℕ) → signed (opposite s) n ≡ neg_ℤ (signed s n)
signed_opposite Buy n = refl
signed_opposite Sell n = omega (arith, ints)

negated_sum : (a b c d : ℤ) → a ≡ neg_ℤ b → c ≡ neg_ℤ d → a +ℤ c ≡ neg_ℤ (b +ℤ d)
negated_sum a b c d p q = omega (arith, ints)

-- flipping the legs negates a sum that does not look at their sides
flipped_sum : (f : Leg → ℕ) → ((l : Leg) → f (flipped l) ≡ f l) → (legs : List Leg) → signed_sum f (map flipped legs) ≡ neg_ℤ (signed_sum f legs)
flipped_sum f h [] = refl
flipped_sum f h (l ∷ ls) =
    negated_sum (signed (opposite l.side) (f (flipped l))) (signed l.side (f l)) (signed_sum f (map flipped ls)) (signed_sum f ls)
    (ap (signed (opposite l.side)) (h l) ∙ signed_opposite l.side (f l)) (flipped_sum f h ls)

one_more : (s : Side) (n : ℕ) (z : ℤ) → s ≡ Buy → z ≡ pos n → signed s 1 +ℤ z ≡ pos (suc n)
one_more Buy n z b e = omega (arith, ints)
one_more Sell n z b e = absurd (let c : ◌≡◌ {A = ℕ} 0 1 = cc in omega arith)

bought_balance : (legs : List Leg) → AllByRecursion (λ l. l.side ≡ Buy) legs → balance legs ≡ pos (length legs)
bought_balance [] h = refl
bought_balance (l ∷ ls) h = one_more l.side (length ls) (balance ls) h.0 (bought_balance ls h.1)

-- the class of a long form with legs of both sides, by their number and the width
abbrev class_by : ℕ → ℕ → Class
class_by n w = cond (eqb n 3) Butterfly (cond (eqb n 4) BoxSpread (cond (eqb w 0) Calendar Vertical))

-- what tells all bought
record AllBought (c : Class) (w : ℕ) (legs : List Leg) : Type 0 where
  class_is : c ≡ Bought
  some : 0 < length legs
  all : balance legs ≡ pos (length legs)
  flat : w ≡ 0

-- what tells any other long form: its worth, legs of both sides, and the later expiry bought where it is always worth nothing
record Marks (c : Class) (w : ℕ) (legs : List Leg) : Type 0 where
  class_is : c ≡ class_by (length legs) w
  worth : Worth legs w
  even : pos 0 ≤ℤ balance legs
  mixed : balance legs <ℤ pos (length legs)
  later : w ≡ 0 → pos 0 <ℤ signed_sum expiry_of legs

vertical_balance : (u : ℕ) (k : Kind) (low high e : ℕ) → balance (vertical u k low high e) ≡ pos 0
vertical_balance u Call low high e = refl
vertical_balance u Put low high e = refl

module _ (w : ℕ) (legs : List Leg) where
  wide_marks : (c : Class) → c ≡ class_by (length legs) w → Worth legs w → 0 < w → pos 0 ≤ℤ balance legs → balance legs <ℤ pos (length legs) → Marks c w legs
  wide_marks c k v h e m = record { class_is = k; worth = v; even = e; mixed = m; later = λ z. absurd (omega arith) }

  marks : (c : Class) → Long c w legs → AllBought c w legs ⊎ Marks c w legs
  marks Bought v = inl record { class_is = refl; some = v.some; all = bought_balance legs v.all; flat = v.flat }
  marks Vertical v =
      let form : List Leg = vertical v.u v.k v.low v.high v.e in
      let n : length legs ≡ 2 = length-vertical w legs v in
      let b : balance legs ≡ pos 0 = sum_reordered one legs form v.legs_are ∙ vertical_balance v.u v.k v.low v.high v.e in
      inr (wide_marks Vertical (rw (n, ne_eqb w 0 (omega arith))) (vertical_worth w legs v) v.wide (omega (arith, ints)) (omega (arith, ints)))
  marks Calendar v =
      let form : List Leg = calendar v.u v.k v.strike v.near v.later in
      let n : length legs ≡ 2 = length-calendar w legs v in
      let b : balance legs ≡ balance form = sum_reordered one legs form v.legs_are in
      let d : signed_sum expiry_of legs ≡ signed_sum expiry_of form = sum_reordered expiry_of legs form v.legs_are in
      inr record {
        class_is = rw (n, v.flat);
        worth = rw v.flat (calendar_worth w legs v);
        even = omega (arith, ints);
        mixed = omega (arith, ints);
        later = λ z. omega (arith, ints);
      }
  marks Butterfly v =
      let form : List Leg = butterfly v.u v.k v.low v.middle v.high v.e in
      let n : length legs ≡ 3 = length-butterfly w legs v in
      let b : balance legs ≡ balance form = sum_reordered one legs form v.legs_are in
      inr (wide_marks Butterfly (rw n) (butterfly_worth w legs v) v.wide (omega (arith, ints)) (omega (arith, ints)))
  marks BoxSpread v =
      let form : List Leg = box v.u v.low v.high v.e in
      let n : length legs ≡ 4 = length-box w legs v in
      let b : balance legs ≡ balance form = sum_reordered one legs form v.legs_are in
      inr (wide_marks BoxSpread (rw n) (box_worth w legs v) v.wide (omega (arith, ints)) (omega (arith, ints)))
  marks Other v = absurd v

at_most : (legs : List Leg) (w w' : ℕ) → Worth legs w → Worth legs w' → w ≤ w'
at_most legs w w' v v' =
    let top : payoff legs v.at ≤ℤ pos w' = (v'.within v.at).most in
    let is : payoff legs v.at ≡ pos w = v.reached in omega (arith, ints)

-- legs that are two long forms are the same one twice
same_form : (c c' : Class) (w w' : ℕ) (legs : List Leg) → AllBought c w legs ⊎ Marks c w legs → AllBought c' w' legs ⊎ Marks c' w' legs → (c ≡ c') × (w ≡ w')
same_form c c' w w' legs (inl a) (inl b) = (a.class_is ∙ sym b.class_is, a.flat ∙ sym b.flat)
same_form c c' w w' legs (inl a) (inr m) = absurd (omega (arith, ints, a.all, m.mixed))
same_form c c' w w' legs (inr m) (inl b) = absurd (omega (arith, ints, b.all, m.mixed))
same_form c c' w w' legs (inr m) (inr o) =
    let p : w ≤ w' = at_most legs w w' m.worth o.worth in
    let q : w' ≤ w = at_most legs w' w o.worth m.worth in
    let e : w ≡ w' = omega arith in
    (m.class_is ∙ ap (class_by (length legs)) e ∙ sym o.class_is, e)

flipped_payoff : (legs : List Leg) (s : ℕ) → payoff (map flipped legs) s ≡ neg_ℤ (payoff legs s)
flipped_payoff legs s = flipped_sum (leg_paid s) (λ l. refl) legs

-- legs that pay no less than 0, flipped or not, pay nothing
flat : (legs : List Leg) (w w' : ℕ) → Worth legs w → Worth (map flipped legs) w' → (w ≡ 0) × (w' ≡ 0)
flat legs w w' v v' = (
  omega (arith, ints, (v'.within v.at).least, flipped_payoff legs v.at, v.reached),
  omega (arith, ints, (v.within v'.at).least, flipped_payoff legs v'.at, v'.reached),
)

-- legs are not long both as they are and flipped
module _ (c c' : Class) (w w' : ℕ) (legs : List Leg) where
  turned_balance : balance (map flipped legs) ≡ neg_ℤ (balance legs)
  turned_balance = flipped_sum one (λ l. refl) legs

  turned_expiries : signed_sum expiry_of (map flipped legs) ≡ neg_ℤ (signed_sum expiry_of legs)
  turned_expiries = flipped_sum expiry_of (λ l. refl) legs

  same_length : length (map flipped legs) ≡ length legs
  same_length = length-map legs flipped

  not-flipped : AllBought c w legs ⊎ Marks c w legs → AllBought c' w' (map flipped legs) ⊎ Marks c' w' (map flipped legs) → ⊥
  not-flipped (inl a) (inl b) = omega (arith, ints, a.all, a.some, b.all, turned_balance, same_length)
  not-flipped (inl a) (inr o) = omega (arith, ints, a.all, a.some, o.even, turned_balance)
  not-flipped (inr m) (inl b) = omega (arith, ints, m.even, b.all, b.some, turned_balance)
  not-flipped (inr m) (inr o) =
      let z : (w ≡ 0) × (w' ≡ 0) = flat legs w w' m.worth o.worth in
      omega (arith, ints, m.later z.0, o.later z.1, turned_expiries)

one_turning : (t t' : Bool) (c c' : Class) (w w' : ℕ) (legs : List Leg) → Long c w (turned_legs t legs) → Long c' w' (turned_legs t' legs) → (c ≡ c') × (w ≡ w') × (t ≡ t')
one_turning true true c c' w w' legs v v' =
    let s = same_form c c' w w' (map flipped legs) (marks w (map flipped legs) c v) (marks w' (map flipped legs) c' v') in (s.0, s.1, refl)
one_turning false false c c' w w' legs v v' = let s = same_form c c' w w' legs (marks w legs c v) (marks w' legs c' v') in (s.0, s.1, refl)
one_turning false true c c' w w' legs v v' = absurd (not-flipped c c' w w' legs (marks w legs c v) (marks w' (map flipped legs) c' v'))
one_turning true false c c' w w' legs v v' = absurd (not-flipped c' c w' w legs (marks w' legs c' v') (marks w (map flipped legs) c v))

same_strategy : (a b : Strategy) → a.class ≡ b.class → a.width ≡ b.width → a.turned ≡ b.turned → a ≡ b
same_strategy a b e f g = λ i. record { class = e i; width = f i; turned = g i }

-- legs have one class, width and turning
pub unique : (legs : List Leg) (r s : Strategy) → Classified legs r → Classified legs s → s ≡ r
unique legs r s (inl v) (inl v') =
    let e = one_turning s.turned r.turned s.class r.class s.width r.width legs v' v in same_strategy s r e.0 e.1 e.2
unique legs r s (inl v) (inr o) = absurd (o.no_form r.turned r.class r.width v)
unique legs r s (inr o) (inl v) = absurd (o.no_form s.turned s.class s.width v)
unique legs r s (inr o) (inr p) =
    same_strategy s r (p.class_is ∙ sym o.class_is) (p.width_is ∙ sym o.width_is) (p.turned_is ∙ sym o.turned_is)
