-- Orders that passed their checks, and orders that did not.
use Rattle.std.proofs.Common.{◌≡◌, ℕ, ◌<◌, true, false, not, ◌&&◌, ◌||◌, leb, List, [], map, ℤ, pos, negsuc, Some, None, Ok, Err, Option, Result, sym, refl, ap, ◌∙◌, subst, arith, lit<}
use lib.Signed.{le_z}
use Rattle.std.proofs.lemmas.Bool.{and_parts, leb-true, not-true}
use Rattle.strategy.specs.declared.leg.Leg.{Leg}
use Rattle.market.specs.declared.leg.TradedLeg.{TradedLeg}
use Rattle.orders.specs.declared.fault.OrderFault.{OrderFault}
use Rattle.orders.specs.declared.fault.OrderFault.TheVariants as order
use Rattle.orders.specs.declared.fault.GateFault.{GateFault}
use Rattle.orders.specs.declared.fault.GateFault.TheVariants as gate
use Rattle.orders.specs.declared.records.LegTerms.{LegTerms}
use Rattle.orders.specs.declared.records.OrderTerms.{OrderTerms}
use Rattle.orders.specs.Checks.{check, first_bad, map_ok, between, amount}
use Rattle.orders.specs.Faults.{order_number, number_of}
use Rattle.orders.specs.Ranges.{limit_in_range, quantity_in_range, leg_in_range, ratio_of, series_number, traded_leg}
use Rattle.orders.specs.LegLists.{is_few, legs_of}
use Rattle.orders.specs.Orders.{repeated, uneven, reducible, legs_checked}
use Rattle.orders.specs.Entered.{Entered, order_of, checked_order}
use Rattle.orders.specs.SoundLegs.{sound}
use Rattle.orders.proofs.Checked.{err_ok, same_ok, check_ok, at_ok, map_ok_lem, none_refused, check_all, at_all, map_all}
use Rattle.orders.proofs.Soundness.{passed_sound}
use Rattle.orders.proofs.Verdicts.{same_series_lem}
use Rattle.listing.specs.Resolving.{first_unlisted, differing, option_leg, resolving}
use Rattle.days.specs.Verdicts.{and_then, carried, check_fault}
use Rattle.days.specs.State.{State}
use Rattle.days.specs.Listings.{is_closed}
use Rattle.days.specs.Entries.{Placed, placed_as, placed, entered_legs, entered_as, options_of}

module _ {A B : Type 0} where
  pub fault_ok : (p : Option B) (r : Result A B) (x : A) → check_fault p r ≡ Ok x → (p ≡ None) × (r ≡ Ok x)
  fault_ok None r x e = (refl, e)
  fault_ok (Some f) r x e = absurd (err_ok f x e)

  then_ok : {C : Type 0} (r : Result C B) (next : C → Result A B) (x : A) → and_then r next ≡ Ok x → (y : C) × (r ≡ Ok y) × (next y ≡ Ok x)
  then_ok (Ok y) next x e = (y, refl, e)
  then_ok (Err f) next x e = absurd (err_ok f x e)

  module _ (P : B → Type 0) where
    then_all : {C : Type 0} (r : Result C B) (next : C → Result A B) → ((g : B) → r ≡ Err g → P g) → ((y : C) (g : B) → next y ≡ Err g → P g) → (g : B) → and_then r next ≡ Err g → P g
    then_all (Ok y) next first later g e = later y g e
    then_all (Err f) next first later g e = first g (let same : f ≡ g = cc in ap Err same)

order_low : (f : OrderFault) → order_number f < 25
order_low order.LegCount = lit< tt
order_low (order.Range p) = lit< tt
order_low (order.Repeated p) = lit< tt
order_low order.Ratios = lit< tt

carried_ok : {A : Type 0} (r : Result A OrderFault) (x : A) → carried r ≡ Ok x → r ≡ Ok x
carried_ok (Ok y) x e = let same : y ≡ x = cc in ap Ok same
carried_ok (Err f) x e = absurd (err_ok (gate.Order f) x e)

carried_low : {A : Type 0} (r : Result A OrderFault) (g : GateFault) → carried r ≡ Err g → number_of g < 25
carried_low (Ok y) g e = none_refused (λ g. number_of g < 25) y g e
carried_low (Err f) g e = let same : gate.Order f ≡ g = cc in subst (λ g. number_of g < 25) same (order_low f)

positive : (z : ℤ) (high : ℤ) → between (pos 1) high z ≡ true → 0 < amount z
positive (pos n) high e = leb-true 1 n (and_parts (leb 1 n) (le_z (pos n) high) e).0
positive (negsuc n) high e = absurd (let z : false ≡ true = e in let y : ◌≡◌ {A = ℕ} 0 1 = cc in omega arith)

checked_legs_lem : (legs : List LegTerms) (gs : List TradedLeg) → legs_checked legs ≡ Ok gs → (gs ≡ map traded_leg legs) × (sound gs ≡ true)
checked_legs_lem legs gs e =
    let ranged = at_ok (first_bad leg_in_range 1 legs) order.Range _ gs e in
    let apart = at_ok (repeated [] 1 (map series_number legs)) order.Repeated _ gs ranged.1 in
    let even = check_ok (not (uneven (map ratio_of legs) || reducible (map ratio_of legs))) order.Ratios _ gs apart.1 in
    let is : gs ≡ map traded_leg legs = sym (same_ok (map traded_leg legs) gs even.1) in
    (is, passed_sound legs gs ranged.0 is (ap (λ x. repeated [] 1 (map (λ g. g.series) x)) is ∙ ap (repeated [] 1) (same_series_lem legs) ∙ apart.0))

checked_is : (o : OrderTerms) (x : Entered) → checked_order o ≡ Ok x → (x ≡ entered_as o) × (0 < amount o.quantity) × (sound (entered_legs o) ≡ true)
checked_is o x e =
    let counted = check_ok (is_few o.legs) order.LegCount _ x e in
    let within = check_ok (limit_in_range o.limit && quantity_in_range o.quantity) (order.Range 0) _ x counted.1 in
    let made = map_ok_lem (order_of o) (legs_checked (legs_of o.legs)) x within.1 in
    let legs = checked_legs_lem (legs_of o.legs) made.0 made.1 in (
      made.2 ∙ ap (order_of o) legs.0,
      positive o.quantity (pos 10000) (and_parts (limit_in_range o.limit) (quantity_in_range o.quantity) within.0).1,
      ap sound (sym legs.0) ∙ legs.1,
    )

resolved_is : (s : State) (gs : List TradedLeg) (options : List Leg) → resolving s.series gs ≡ Ok options → options ≡ map (option_leg s.series) gs
resolved_is s gs options e =
    let there = at_ok (first_unlisted s.series gs) gate.NotListed _ options e in
    let same = at_ok (differing s.series gs) gate.Underlying _ options there.1 in
    sym (same_ok (map (option_leg s.series) gs) options same.1)

pub record Passed (s : State) (o : OrderTerms) (p : Placed) : Type 0 where
  pub is : p ≡ placed_as (entered_as o) (options_of s.series o)
  pub some : 0 < amount o.quantity
  pub fit : sound (entered_legs o) ≡ true
  pub unclosed : is_closed s.phase ≡ false

module _ (s : State) (o : OrderTerms) where
  -- what comes after the order's own checks
  abbrev next : Entered → Result Placed GateFault
  next x = check (not (is_closed s.phase)) gate.Phase (map_ok (placed_as x) (resolving s.series x.legs))

  pub passed : (p : Placed) → placed s o ≡ Ok p → Passed s o p
  passed p e =
      let first = then_ok (carried (checked_order o)) next p e in
      let checked = checked_is o first.0 (carried_ok (checked_order o) first.0 first.1) in
      let open-now = check_ok (not (is_closed s.phase)) gate.Phase _ p first.2 in
      let made = map_ok_lem (placed_as first.0) (resolving s.series first.0.legs) p open-now.1 in
      let options = resolved_is s first.0.legs made.0 made.1 in
      record {
        is = made.2 ∙ ap (placed_as first.0) options ∙ ap (λ (x : Entered). placed_as x (map (option_leg s.series) x.legs)) checked.0;
        some = checked.1;
        fit = checked.2;
        unclosed = not-true (is_closed s.phase) open-now.0;
      }

  -- a refusal before the price has a number below those of the price
  pub early_number : (f : GateFault) → placed s o ≡ Err f → number_of f < 25
  early_number =
      let P : GateFault → Type 0 = λ f. number_of f < 25 in
      then_all P (carried (checked_order o)) next (carried_low (checked_order o)) (λ x.
      check_all P (not (is_closed s.phase)) gate.Phase _ (lit< tt) (
      map_all P (placed_as x) (resolving s.series x.legs) (
      at_all P (first_unlisted s.series x.legs) gate.NotListed _ (λ k. lit< tt) (
      at_all P (differing s.series x.legs) gate.Underlying _ (λ k. lit< tt) (
      none_refused P (map (option_leg s.series) x.legs))))))
