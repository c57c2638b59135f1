-- What a quotation says.
use Rattle.std.proofs.Common.{◌≡◌, ℕ, Bool, true, false, not, List, ℤ, IfOk, Some, Ok, Err, Result, sym, refl, ap, ◌∙◌, subst, arith}
use Rattle.std.proofs.lemmas.Int.{ints}
use Rattle.strategy.specs.declared.leg.Side.TheVariants.{Buy}
use Rattle.strategy.specs.declared.leg.Leg.{Leg}
use Rattle.strategy.specs.declared.class.Class.{Class}
use Rattle.strategy.specs.declared.class.Class.TheVariants.{Bought, Vertical, Calendar, Butterfly, BoxSpread, Other}
use Rattle.strategy.specs.declared.price.Buffer.{Buffer}
use Rattle.strategy.specs.declared.price.Buffers.{Buffers}
use Rattle.strategy.specs.Forms.{Long}
use Rattle.strategy.specs.Prices.{below, above, lowest, highest, lower_end, prevented_of, Exactly, ForBanded, OutOfBand}
use Rattle.strategy.proofs.Laws.{prevention_law}
use Rattle.market.specs.Levels.{Levels}
use Rattle.orders.specs.declared.fault.GateFault.{GateFault}
use Rattle.orders.specs.declared.fault.GateFault.TheVariants.{Prevented}
use Rattle.orders.specs.declared.turned.TurnedOrder.{TurnedOrder}
use Rattle.orders.specs.Checks.{check}
use Rattle.orders.specs.TurnedTerms.{terms_of}
use Rattle.orders.proofs.Checked.{err_ok}
use Rattle.fills.specs.declared.fill.Fill.{Fill}
use Rattle.fills.specs.Fillings.{filling_of}
use Rattle.fills.specs.Quotes.{fill_at, quoted}
use Rattle.fills.specs.FillLaws.{Filled, FillLaw, LowBuyFills}
use Rattle.fills.proofs.Fillings.{decided_net, shown_filled, same_fill}

abbrev Answer : Type 0
Answer = Result Fill GateFault

exact : (t : Bool) (X : Type 0) (f : Fill) → Exactly (t ≡ true) X → Exactly (◌≡◌ {A = Answer} (check (not t) Prevented (Ok f)) (Err Prevented)) X × Exactly (◌≡◌ {A = Answer} (check (not t) Prevented (Ok f)) (Ok f)) (X → ⊥)
exact true X f h = ((λ e. h.0 refl, λ x. refl), (λ e. absurd (err_ok Prevented f e), λ n. absurd (n (h.0 refl))))
exact false X f h = (
  (λ e. absurd (err_ok Prevented f (sym e)), λ x. absurd (let t = h.1 x in let z : ◌≡◌ {A = ℕ} 0 1 = cc in omega arith)),
  (λ e x. let t = h.1 x in let z : ◌≡◌ {A = ℕ} 0 1 = cc in omega arith, λ n. refl),
)

pub banded : (c : Class) (buffers : Buffers) (P Q : Buffer → Type 0) → ((f : Buffer) → P f → Q f) → ForBanded c buffers P → ForBanded c buffers Q
banded Bought buffers P Q k h = tt
banded Vertical buffers P Q k h = k buffers.vertical h
banded Calendar buffers P Q k h = tt
banded Butterfly buffers P Q k h = k buffers.butterfly h
banded BoxSpread buffers P Q k h = k buffers.boxes h
banded Other buffers P Q k h = tt

-- a buy below the Minimum is not above the Maximum
low_high : (f : Buffer) (w : ℕ) (net : ℤ) → below net (Some (lowest f)) ≡ true → above net (Some (highest f w)) ≡ false
low_high f w net h = grind (arith, ints)

low_free : (c : Class) (w : ℕ) (net : ℤ) (buffers : Buffers) → below net (lower_end c buffers) ≡ true → prevented_of c w Buy net buffers ≡ false
low_free Bought w net buffers h = refl
low_free Vertical w net buffers h = low_high buffers.vertical w net h
low_free Calendar w net buffers h = refl
low_free Butterfly w net buffers h = low_high buffers.butterfly w net h
low_free BoxSpread w net buffers h = low_high buffers.boxes w net h
low_free Other w net buffers h = refl

module _ (b : Levels) (o : TurnedOrder) (remaining : ℕ) (buffers : Buffers) (r : Answer) (e : r ≡ quoted b o remaining buffers) where
  pub filled : IfOk r (Filled b o remaining)
  filled = shown_filled b (terms_of o) remaining o.legs.sound buffers (fill_at b o remaining) filling_of (same_fill b o remaining) r e

  pub fill_law : (turned : List Leg) → Long o.class o.width turned → FillLaw b o remaining turned buffers r
  fill_law turned long net h =
      subst (λ x. ForBanded o.class buffers (λ f. Exactly (x ≡ Err Prevented) (OutOfBand o.side o.width turned net f) × Exactly (x ≡ Ok (fill_at b o remaining net)) (OutOfBand o.side o.width turned net f → ⊥))) (sym (e ∙ decided_net b (terms_of o) buffers (fill_at b o remaining) net h))
      (banded o.class buffers (λ f. Exactly (prevented_of o.class o.width o.side net buffers ≡ true) (OutOfBand o.side o.width turned net f)) _
      (λ f. exact (prevented_of o.class o.width o.side net buffers) (OutOfBand o.side o.width turned net f) (fill_at b o remaining net))
      (prevention_law o.class o.width turned o.side net buffers long))

  pub low_buy : LowBuyFills b o remaining buffers r
  low_buy net h buy low =
      e ∙ decided_net b (terms_of o) buffers (fill_at b o remaining) net h
      ∙ ap (λ t. check (not t) Prevented (Ok (fill_at b o remaining net))) (ap (λ s. prevented_of o.class o.width s net buffers) buy ∙ low_free o.class o.width net buffers low)
