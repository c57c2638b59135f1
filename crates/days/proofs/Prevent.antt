-- What work prevents, and that all else fills.
use Rattle.std.proofs.Common.{◌≡◌, ℕ, ◌≤◌, Bool, true, false, not, ◌⊎◌, List, [], ◌∷◌, length, ℤ, pos, IfSome, Some, Ok, Err, Result, sym, refl, ap, ◌∙◌, subst, inl, inr, ⊎_elim, arith}
use Rattle.std.proofs.lemmas.Bool.{cases_Bool}
use Rattle.strategy.specs.declared.leg.Side.{Side}
use Rattle.strategy.specs.declared.leg.Side.TheVariants.{Buy, Sell}
use Rattle.strategy.specs.declared.leg.Leg.{Leg}
use Rattle.strategy.specs.declared.class.Strategy.{Strategy}
use Rattle.strategy.specs.declared.price.Buffers.{Buffers}
use Rattle.strategy.specs.Legs.{turned_legs}
use Rattle.strategy.specs.Forms.{Classified}
use Rattle.strategy.specs.Prices.{prevented_of, Exactly, PreventionLaw, OutOfBand}
use Rattle.strategy.proofs.Laws.{prevention_law}
use Rattle.market.specs.declared.leg.TradedLeg.{TradedLeg}
use Rattle.market.specs.Levels.{Levels}
use Rattle.market.specs.Net.{net_side, net_market}
use Rattle.orders.specs.declared.fault.GateFault.{GateFault}
use Rattle.orders.specs.declared.fault.GateFault.TheVariants as gate
use Rattle.orders.specs.Checks.{check, map_ok}
use Rattle.orders.specs.Faults.{number_of}
use Rattle.orders.specs.SoundLegs.{sound}
use Rattle.book.specs.Resting.{Resting}
use Rattle.fills.specs.Fills.{taken_side}
use Rattle.fills.specs.Fillings.{Filling, filling_at, filling}
use Rattle.fills.specs.FillingLaws.{ReachesNet}
use Rattle.fills.proofs.Quotes.{banded}
use Rattle.fills.proofs.Fillings.{at_net, filled}
use Rattle.days.specs.declared.call.Call.TheVariants as call
use Rattle.days.specs.Verdicts.{Verdict}
use Rattle.days.specs.State.{State, Line, in_force}
use Rattle.days.specs.Works.{terms_in, line_for, matched, working}
use Rattle.days.specs.History.{Event, worked, Refusing, Quiet, Works, Step}
use Rattle.days.specs.Laws.{drawn, Draws, Reaches, posted, Entry, Accepted, legs_of, side_of, taking, Filled, Prevention, PreventionHeld}
use Rattle.orders.proofs.Checked.{by_cases, err_ok, same_ok}
use Rattle.days.proofs.Fills.{Low, quoted_cases, work_cases}
use Rattle.days.proofs.Orders.{resting_as, Known, Orders}
use Rattle.days.proofs.Protect.{as_event, no_band, exact_trans, none_number}

taking_is : (m : Levels) (legs : List TradedLeg) (side : Side) → taking side (net_market m legs) ≡ net_side m legs (taken_side side)
taking_is m legs Buy = refl
taking_is m legs Sell = refl

map-drawn : {A B : Type 0} (g : A → B) (r : Result A GateFault) → drawn (map_ok g r) ≡ drawn r
map-drawn g (Ok x) = refl
map-drawn g (Err f) = refl

exact_34 : {A : Type 0} (p : Bool) (x : A) → Exactly (p ≡ true) (drawn (check (not p) gate.Prevented (Ok x)) ≡ Some 34)
exact_34 true x = (λ e. refl, λ e. refl)
exact_34 false x = (λ e. absurd (let z : ◌≡◌ {A = ℕ} 0 1 = cc in omega arith), λ e. absurd (none_number 34 e))

pub classified_of : (h : List Event) (n : ℕ) (x : Entry) → Accepted h n x → Classified x.options x.strategy
classified_of [] n x a = absurd a
classified_of (e ∷ h) n x (inl a) = a.classified
classified_of (e ∷ h) n x (inr a) = classified_of h n x a

pub prevents_law : (options : List Leg) (y : Strategy) (side : Side) (net : ℤ) (bs : Buffers) → Classified options y
    → PreventionLaw y.class y.width (turned_legs y.turned options) side net bs (prevented_of y.class y.width side net bs)
prevents_law options y side net bs (inl v) = prevention_law y.class y.width (turned_legs y.turned options) side net bs v
prevents_law options y side net bs (inr o) = no_band y.class o.class_is bs _

same_work : (z w : ℤ) → call.Work z ≡ call.Work w → z ≡ w
same_work z w e = cc

module _ (h : List Event) (s : State) (k : Orders h s.last s.order s.tape) (notices : s.notices ≡ posted h) (n : ℕ) (x : Entry) (accepted : Accepted h n x)
    (z : ℤ) (a : Verdict) (m : Levels) (fs : List Line) (t : State) (m' : Levels) (d : Step s m (call.Work (pos n)) a fs t m') (unless : Reaches 34 a) where
  abbrev e : Event
  e = as_event (call.Work z) a s m fs m'

  abbrev bs : Buffers
  bs = in_force s.notices

  answered : ((f : Line) × (working s m (pos n) ≡ Ok f) × Works s m f a fs t m') ⊎ ((f : GateFault) × (working s m (pos n) ≡ Err f) × (Quiet m fs m' × Refusing f s a t))
  answered = by_cases (working s m (pos n)) (λ f. Works s m f a fs t m') (λ f. Quiet m fs m' × Refusing f s a t) d

  drawn_is : drawn a ≡ drawn (working s m (pos n))
  drawn_is =
      ⊎_elim
      (λ w. ap drawn w.2.0 ∙ sym (ap drawn w.1))
      (λ w. ap drawn w.2.1.0 ∙ sym (ap drawn w.1))
      answered

  not_low : {A : Type 0} (r : Result A GateFault) → drawn a ≡ drawn r → Low r → ⊥
  not_low r is l =
      let high : 34 ≤ number_of l.0 = subst (λ v. IfSome v (λ j. 34 ≤ j)) (is ∙ ap drawn l.1) unless in
      let low = l.2 in
      omega arith

  -- the order rests, and work comes to what it draws
  module _ (o : Resting) (held : s.order n ≡ Some o) (comes : working s m (pos n) ≡ matched s m o) where
    known : Known h n o
    known = k.known n o held

    same : known.entry ≡ x
    same = k.once n known.entry x known.accepted accepted

    fit : sound (legs_of x) ≡ true
    fit = subst (λ y. sound (legs_of y) ≡ true) same known.fit

    abbrev own : Resting
    own = resting_as n x o.remaining

    abbrev quote : Result Filling GateFault
    quote = filling m (terms_in own) o.remaining bs

    -- in the terms in which it was accepted
    comes_to : working s m (pos n) ≡ map_ok (line_for own (length s.notices)) quote
    comes_to = comes ∙ ap (matched s m) (subst (λ y. o ≡ resting_as n y o.remaining) same known.is)

    drawn_from : drawn a ≡ drawn quote
    drawn_from = drawn_is ∙ ap drawn comes_to ∙ map-drawn (line_for own (length s.notices)) quote

    module _ (net : ℤ) (reached : ReachesNet m (terms_in own) net) where
      abbrev stops : Bool
      stops = prevented_of x.strategy.class x.strategy.width (side_of x) net bs

      abbrev fill : Filling
      fill = filling_at m (terms_in own) o.remaining net

      abbrev line : Line
      line = line_for own (length s.notices) fill

      last : quote ≡ check (not stops) gate.Prevented (Ok fill)
      last = at_net m (terms_in own) o.remaining bs net reached

      said : Exactly (stops ≡ true) (Draws 34 a)
      said = subst (λ v. Exactly (stops ≡ true) (v ≡ Some 34)) (sym (drawn_from ∙ ap drawn last)) (exact_34 stops fill)

      fills_if : stops ≡ false → Filled n net e
      fills_if free =
          let made : quote ≡ Ok fill = last ∙ ap (λ p. check (not p) gate.Prevented (Ok fill)) free in
          let done : working s m (pos n) ≡ Ok line = comes_to ∙ ap (map_ok (line_for own (length s.notices))) made in
          let whole = filled m (terms_in own) o.remaining bs fit (Ok fill) (sym made) in
          ⊎_elim
          (λ w.
          let is : w.0 ≡ line = same_ok w.0 line (sym w.1 ∙ done) in
          record {
            line = line;
            written = w.2.1 ∙ ap (λ (f : Line). f ∷ []) is;
            own = refl;
            some = whole.some known.some;
            at = refl;
            answered = w.2.0 ∙ ap worked is;
          })
          (λ w. absurd (err_ok w.0 line (sym w.1 ∙ done)))
          answered

      at_price : Prevention n x bs e
      at_price = record {
        net = net;
        shown = taking_is m (legs_of x) (side_of x) ∙ reached.price;
        prevents = banded x.strategy.class bs
            (λ b. Exactly (stops ≡ true) (OutOfBand (side_of x) x.strategy.width (turned_legs x.strategy.turned x.options) net b))
            (λ b. Exactly (Draws 34 a) (OutOfBand (side_of x) x.strategy.width (turned_legs x.strategy.turned x.options) net b))
            (λ b law. exact_trans (stops ≡ true) (Draws 34 a) (OutOfBand (side_of x) x.strategy.width (turned_legs x.strategy.turned x.options) net b) said law)
            (prevents_law x.options x.strategy (side_of x) net bs (classified_of h n x accepted));
        fills = λ not-drawn. ⊎_elim (λ stopped. absurd (not-drawn (said.0 stopped))) fills_if (cases_Bool stops);
      }

    of_order_lem : Prevention n x bs e
    of_order_lem =
        ⊎_elim
        (λ l. absurd (not_low quote drawn_from l))
        (λ r. at_price r.0 r.1)
        (quoted_cases m (terms_in own) o.remaining bs)

  of_work : Prevention n x (in_force (posted h)) e
  of_work =
      subst (λ ns. Prevention n x (in_force ns) e) notices
      (⊎_elim
      (λ l. absurd (not_low (working s m (pos n)) drawn_is l))
      (λ r. of_order_lem r.0 r.1 r.2)
      (work_cases s m (pos n)))

pub prevention_held : (h : List Event) (s : State) → Orders h s.last s.order s.tape → s.notices ≡ posted h → (z : ℤ) (a : Verdict) (m : Levels) (fs : List Line) (t : State) (m' : Levels) → Step s m (call.Work z) a fs t m' → PreventionHeld h (as_event (call.Work z) a s m fs m')
prevention_held h s k notices z a m fs t m' d n x asked accepted =
    of_work h s k notices n x accepted z a m fs t m' (subst (λ w. Step s m (call.Work w) a fs t m') (same_work z (pos n) asked) d)
