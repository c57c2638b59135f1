-- An abridged list of legs is checked as the whole list would be.
use Rattle.std.proofs.Common.{◌≡◌, ◌&&◌, List, [], ◌∷◌, length, Result, refl, ap, ◌∙◌, arith}
use Rattle.std.proofs.lemmas.Bool.Decides.{nat_tests}
use Rattle.orders.specs.declared.fault.OrderFault.{OrderFault}
use Rattle.orders.specs.declared.fault.OrderFault.TheVariants.{LegCount, Range}
use Rattle.orders.specs.declared.records.LegTerms.{LegTerms}
use Rattle.orders.specs.declared.records.OrderTerms.{OrderTerms}
use Rattle.orders.specs.Checks.{check, map_ok}
use Rattle.orders.specs.Ranges.{limit_in_range, quantity_in_range}
use Rattle.orders.specs.Entered.{Entered, order_of, checked_order, whole_order}
use Rattle.orders.specs.LegLists.{abridged, is_few, legs_of}
use Rattle.orders.specs.Orders.{two_to_four, legs_checked, checked_legs, whole_checked}

-- a check of the count, and then of the legs
whole : {A : Type 0} (next : List LegTerms → Result A OrderFault) (all : List LegTerms) → check (is_few (abridged all)) LegCount (next (legs_of (abridged all))) ≡ check (two_to_four (length all)) LegCount (next all)
whole next [] = refl
whole next (a ∷ []) = refl
whole next (a ∷ b ∷ []) = refl
whole next (a ∷ b ∷ c ∷ []) = refl
whole next (a ∷ b ∷ c ∷ d ∷ []) = refl
whole next (a ∷ b ∷ c ∷ d ∷ e ∷ more) = grind (arith, nat_tests)

pub whole_checked_lem : (all : List LegTerms) → checked_legs (abridged all) ≡ whole_checked all
whole_checked_lem all = whole legs_checked all

pub whole_order_lem : (o : OrderTerms) (all : List LegTerms) → o.legs ≡ abridged all → checked_order o ≡ whole_order o all
whole_order_lem o all e =
    let next : List LegTerms → Result Entered OrderFault = λ legs. check (limit_in_range o.limit && quantity_in_range o.quantity) (Range 0) (map_ok (order_of o) (legs_checked legs)) in
    ap (λ l. check (is_few l) LegCount (next (legs_of l))) e ∙ whole next all

pub order_answers : (o : OrderTerms) (r : Result Entered OrderFault) → r ≡ checked_order o → (r ≡ checked_order o) × ((all : List LegTerms) → o.legs ≡ abridged all → r ≡ whole_order o all)
order_answers o r is = (is, λ all e. is ∙ whole_order_lem o all e)
