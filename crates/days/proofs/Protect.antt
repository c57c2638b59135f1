-- What a limit draws at entry.
use Rattle.std.proofs.Common.{◌≡◌, ℕ, ◌+◌, ◌<◌, ◌≤◌, not, leb, ◌⊎◌, List, ℤ, Some, None, Ok, Err, Option, Result, sym, refl, ap, ◌∙◌, subst, inl, inr, ⊎_elim, arith, lit≤}
use Rattle.strategy.specs.declared.leg.Side.{Side}
use Rattle.strategy.specs.declared.leg.Leg.{Leg}
use Rattle.strategy.specs.declared.class.Class.{Class}
use Rattle.strategy.specs.declared.class.Class.TheVariants as class
use Rattle.strategy.specs.declared.class.Strategy.{Strategy}
use Rattle.strategy.specs.declared.price.Buffer.{Buffer}
use Rattle.strategy.specs.declared.price.Buffers.{Buffers}
use Rattle.strategy.specs.declared.price.Refusal.{Refusal}
use Rattle.strategy.specs.declared.price.Refusal.TheVariants as refusal
use Rattle.strategy.specs.Legs.{turned_side, turned_legs}
use Rattle.strategy.specs.Forms.{Classified}
use Rattle.strategy.specs.Prices.{maximum_buffer, limit_refusal, turned_price, AllAbove, AllBelow, Exactly, ForBanded, LimitLaw}
use Rattle.strategy.proofs.Laws.{limit_law}
use Rattle.strategy.proofs.Unique.{unique}
use Rattle.market.specs.Levels.{Levels}
use Rattle.orders.specs.declared.fault.GateFault.{GateFault}
use Rattle.orders.specs.declared.fault.GateFault.TheVariants as gate
use Rattle.orders.specs.declared.records.OrderTerms.{OrderTerms}
use Rattle.orders.specs.declared.records.Channel.{Channel}
use Rattle.orders.specs.declared.records.Channel.TheVariants.{Plain}
use Rattle.orders.specs.Faults.{number_of}
use Rattle.orders.specs.TurnedTerms.{turned_limit, turned_terms}
use Rattle.fills.proofs.Quotes.{banded}
use Rattle.days.specs.declared.call.Call.{Call}
use Rattle.days.specs.declared.call.Call.TheVariants as call
use Rattle.days.specs.Verdicts.{Verdict}
use Rattle.days.specs.Verdicts.{check_fault}
use Rattle.days.specs.State.{State, Line, in_force}
use Rattle.days.specs.Entries.{Placed, placed_as, placed, entered_as, options_of, limit_verdict, price_fault, numbering, entering, entered_in}
use Rattle.days.specs.History.{Event, order, Refusing, Enters, EnterStep, Step}
use Rattle.days.specs.Laws.{drawn, Draws, Reaches, listed, posted, LimitHeld}
use Rattle.orders.proofs.Checked.{by_cases, check_all, none_refused, same_some}
use Rattle.days.proofs.Checked.{Passed, passed, early_number}

-- a call with its answer, the gate before it, the market before and after, and the lines that it wrote
abbrev pub as_event : Call → Verdict → State → Levels → List Line → Levels → Event
as_event c a s m fs m' = record { call = c; reply = a; before = s; market = m; left = m'; fills = fs }

-- an order past the checks that need no price
abbrev pub placed_by : State → OrderTerms → Placed
placed_by s o = placed_as (entered_as o) (options_of s.series o)

-- Classes with a band

banded_all : (c : Class) (bs : Buffers) (P : Buffer → Type 0) → ((b : Buffer) → P b) → ForBanded c bs P
banded_all class.Bought bs P h = tt
banded_all class.Vertical bs P h = h bs.vertical
banded_all class.Calendar bs P h = tt
banded_all class.Butterfly bs P h = h bs.butterfly
banded_all class.BoxSpread bs P h = h bs.boxes
banded_all class.Other bs P h = tt

pub no_band : (c : Class) → c ≡ class.Other → (bs : Buffers) (P : Buffer → Type 0) → ForBanded c bs P
no_band c e bs P = subst (λ d. ForBanded d bs P) (sym e) tt

pub exact_trans : (P Q R : Type 0) → Exactly P Q → Exactly P R → Exactly Q R
exact_trans P Q R a b = (λ q. b.0 (a.1 q), λ r. a.0 (b.1 r))

-- the law of the legs of a strategy; class other has no band
law_of : (options : List Leg) (y : Strategy) (side : Side) (price : ℤ) (bs : Buffers) → Classified options y
    → LimitLaw y.class y.width (turned_legs y.turned options) price bs (limit_refusal y.class y.width options side price bs)
law_of options y side price bs (inl v) = limit_law y.class y.width options (turned_legs y.turned options) side price bs v
law_of options y side price bs (inr o) = no_band y.class o.class_is bs _

-- Numbers

pub none_number : (n : ℕ) → ◌≡◌ {A = Option ℕ} None (Some n) → ⊥
none_number n e = let z : ◌≡◌ {A = ℕ} 0 1 = cc in omega arith

-- a price's refusal is the answer's number, where what comes after has higher ones
module _ (n : Result ℕ GateFault) (late : (k : ℕ) → drawn n ≡ Some k → 28 ≤ k) where
  abbrev after : Option Refusal → Option ℕ
  after r = drawn (check_fault (price_fault r Plain) n)

  exact_26 : (r : Option Refusal) → Exactly (r ≡ Some refusal.BelowMinimum) (after r ≡ Some 26)
  exact_26 None = (λ e. absurd (let z : ◌≡◌ {A = ℕ} 0 1 = cc in omega arith), λ e. absurd (omega (arith, late 26 e)))
  exact_26 (Some refusal.BoughtBelowMinimum) = (λ e. absurd (let z : ◌≡◌ {A = ℕ} 0 1 = cc in omega arith), λ e. absurd (omega (arith, same_some 25 26 e)))
  exact_26 (Some refusal.BelowMinimum) = (λ e. refl, λ e. refl)
  exact_26 (Some refusal.AboveMaximum) = (λ e. absurd (let z : ◌≡◌ {A = ℕ} 0 1 = cc in omega arith), λ e. absurd (omega (arith, same_some 27 26 e)))

  exact_27 : (r : Option Refusal) → Exactly (r ≡ Some refusal.AboveMaximum) (after r ≡ Some 27)
  exact_27 None = (λ e. absurd (let z : ◌≡◌ {A = ℕ} 0 1 = cc in omega arith), λ e. absurd (omega (arith, late 27 e)))
  exact_27 (Some refusal.BoughtBelowMinimum) = (λ e. absurd (let z : ◌≡◌ {A = ℕ} 0 1 = cc in omega arith), λ e. absurd (omega (arith, same_some 25 27 e)))
  exact_27 (Some refusal.BelowMinimum) = (λ e. absurd (let z : ◌≡◌ {A = ℕ} 0 1 = cc in omega arith), λ e. absurd (omega (arith, same_some 26 27 e)))
  exact_27 (Some refusal.AboveMaximum) = (λ e. refl, λ e. refl)

late_number : (s : State) (f : GateFault) → numbering s Plain ≡ Err f → 28 ≤ number_of f
late_number s =
    let P : GateFault → Type 0 = λ f. 28 ≤ number_of f in
    check_all P (not (leb 64 s.count)) gate.BookFull _ (lit≤ tt) (
    check_all P (not (leb 50000 s.last)) gate.NumbersUsedUp _ (lit≤ tt) (
    none_refused P (s.last + 1)))

late_drawn : (r : Result ℕ GateFault) → ((f : GateFault) → r ≡ Err f → 28 ≤ number_of f) → (k : ℕ) → drawn r ≡ Some k → 28 ≤ k
late_drawn (Ok n) h k e = absurd (none_number k e)
late_drawn (Err f) h k e = subst (λ j. 28 ≤ j) (same_some (number_of f) k e) (h f refl)

-- how the answer to an order past the first checks is drawn
entered_drawn : (s : State) (p : Placed) (y : Strategy) (a : Verdict) (t : State) → Enters s p y a t → drawn a ≡ drawn (entering s p y)
entered_drawn s p y a t d =
    ⊎_elim
    (λ z. ap drawn z.2.0 ∙ sym (ap drawn z.1))
    (λ z. ap drawn z.2.0 ∙ sym (ap drawn z.1))
    (by_cases (entering s p y) (λ n. (a ≡ order n y) × (t ≡ entered_in s n p y)) (λ f. Refusing f s a t) d)

-- Limits

abbrev LimitSaid : List Leg → Strategy → ℤ → Verdict → Buffer → Type 0
LimitSaid options y limit a b =
    (Reaches 26 a → Exactly (Draws 26 a) (AllAbove (turned_legs y.turned options) (turned_price y.turned limit) b.minimum))
    × (Reaches 27 a → Exactly (Draws 27 a) (AllBelow (turned_legs y.turned options) (turned_price y.turned limit) (maximum_buffer b y.width)))

-- an answer that fails an earlier check
refused_early : (options : List Leg) (y : Strategy) (limit : ℤ) (a : Verdict) (bs : Buffers) (f : GateFault) → a ≡ Err f → number_of f < 25 → ForBanded y.class bs (LimitSaid options y limit a)
refused_early options y limit a bs f is low =
    banded_all y.class bs (LimitSaid options y limit a) (λ b. (
      λ r. absurd (let z : 26 ≤ number_of f = subst (Reaches 26) is r in omega arith),
      λ r. absurd (let z : 27 ≤ number_of f = subst (Reaches 27) is r in omega arith),
    ))

-- an answer drawn from the price
priced_answer : (s : State) (o : OrderTerms) (limit : ℤ) (y : Strategy) (a : Verdict) (t : State) → o.channel ≡ Plain → o.limit ≡ Some limit
    → Classified (options_of s.series o) y → Enters s (placed_by s o) y a t → ForBanded y.class (in_force s.notices) (LimitSaid (options_of s.series o) y limit a)
priced_answer s o limit y a t plain is k d =
    let options : List Leg = options_of s.series o in
    let bs : Buffers = in_force s.notices in
    let side : Side = turned_side y.turned o.side in
    let price : ℤ = turned_price y.turned limit in
    let r : Option Refusal = limit_refusal y.class y.width options side price bs in
    let late = late_drawn (numbering s Plain) (late_number s) in
    let verdict : Option ℤ → Option Refusal = λ (l : Option ℤ). limit_verdict (turned_limit y.turned l) options (turned_terms y (entered_as o)) bs in
    let said : drawn a ≡ after (numbering s Plain) late r =
    entered_drawn s (placed_by s o) y a t d
    ∙ ap (λ (c : Channel). drawn (check_fault (price_fault (verdict o.limit) c) (numbering s c))) plain
    ∙ ap (λ (l : Option ℤ). after (numbering s Plain) late (verdict l)) is in
    banded y.class bs
    (λ b. Exactly (r ≡ Some refusal.BelowMinimum) (AllAbove (turned_legs y.turned options) price b.minimum) × Exactly (r ≡ Some refusal.AboveMaximum) (AllBelow (turned_legs y.turned options) price (maximum_buffer b y.width)))
    (LimitSaid options y limit a)
    (λ b law. (
      λ _. exact_trans (r ≡ Some refusal.BelowMinimum) (Draws 26 a) (AllAbove (turned_legs y.turned options) price b.minimum)
          (subst (λ v. Exactly (r ≡ Some refusal.BelowMinimum) (v ≡ Some 26)) (sym said) (exact_26 (numbering s Plain) late r)) law.0,
      λ _. exact_trans (r ≡ Some refusal.AboveMaximum) (Draws 27 a) (AllBelow (turned_legs y.turned options) price (maximum_buffer b y.width))
          (subst (λ v. Exactly (r ≡ Some refusal.AboveMaximum) (v ≡ Some 27)) (sym said) (exact_27 (numbering s Plain) late r)) law.1,
    ))
    (law_of options y side price bs k)

pub same_order : (o o' : OrderTerms) → call.Enter o ≡ call.Enter o' → o ≡ o'
same_order o o' e = cc

-- how an order is entered: past the first checks, its legs are of a strategy
abbrev pub Entering : State → Verdict → State → Placed → Type 0
Entering s a t p = (y : Strategy) × Classified p.options y × Enters s p y a t

-- what enter says of an order: by its strategy, or refused early
pub enter_cases : (s : State) (o : OrderTerms) (a : Verdict) (t : State) → EnterStep s o a t
    → (Passed s o (placed_by s o) × Entering s a t (placed_by s o)) ⊎ ((f : GateFault) × (number_of f < 25) × Refusing f s a t)
enter_cases s o a t d =
    ⊎_elim
    (λ z. let k = passed s o z.0 z.1 in inl (subst (λ p. Passed s o p × Entering s a t p) k.is (k, z.2)))
    (λ z. inr (z.0, early_number s o z.0 z.1, z.2))
    (by_cases (placed s o) (Entering s a t) (λ f. Refusing f s a t) d)

module _ (h : List Event) (s : State) (series : s.series ≡ listed h) (notices : s.notices ≡ posted h) where
  -- of one order
  abbrev HeldFor : Verdict → OrderTerms → Type 0
  HeldFor a o =
      (limit : ℤ) (y : Strategy) → o.channel ≡ Plain → o.limit ≡ Some limit → Classified (options_of (listed h) o) y →
      ForBanded y.class (in_force (posted h)) (LimitSaid (options_of (listed h) o) y limit a)

  held_for : (o : OrderTerms) (a : Verdict) (t : State) → EnterStep s o a t → HeldFor a o
  held_for o a t d limit y plain is k =
      ⊎_elim
      (λ z.
      let mine : Classified (options_of s.series o) y = subst (λ table. Classified (options_of table o) y) (sym series) k in
      let same : z.1.0 ≡ y = unique (options_of s.series o) y z.1.0 mine z.1.1 in
      let enters : Enters s (placed_by s o) y a t = subst (λ w. Enters s (placed_by s o) w a t) same z.1.2 in
      subst (λ ns. ForBanded y.class (in_force ns) (LimitSaid (options_of (listed h) o) y limit a)) notices
      (subst (λ table. ForBanded y.class (in_force s.notices) (LimitSaid (options_of table o) y limit a)) series
      (priced_answer s o limit y a t plain is mine enters)))
      (λ z. refused_early (options_of (listed h) o) y limit a (in_force (posted h)) z.0 z.2.0 z.1)
      (enter_cases s o a t d)

  pub limit_held : (o : OrderTerms) (a : Verdict) (m : Levels) (fs : List Line) (t : State) (m' : Levels) → Step s m (call.Enter o) a fs t m' → LimitHeld h (as_event (call.Enter o) a s m fs m')
  limit_held o a m fs t m' (quiet, d) o' limit y asked = subst (HeldFor a) (same_order o o' asked) (held_for o a t d) limit y
