use Rattle.std.proofs.Common.{◌≡◌, sym, ◌∙◌, w32, SFits, rules}
use Rattle.std.proofs.lemmas.Result.{err_from_is_err_and}
use Rattle.std.proofs.lemmas.Int.{to_z-of_z}
use Rattle.strategy.specs.Few.{listed}
use Rattle.orders.specs.Checks.{map_ok}
use Rattle.orders.specs.Entered.{entered_order, checked_order}
use Rattle.orders.proofs.Abridged.{order_answers}
use Rattle.orders.proofs.Verdicts.{stops_legs}
use Rattle.orders.proofs.checks.CheckedOrderTryFromOrderTerms.try_from.Goals as goal

pub returns-in_err-legs : goal.returns-in_err-legs
returns-in_err-legs c = order_answers c.args.terms _ (search rules)

pub returns-in_err-quantity : goal.returns-in_err-quantity
returns-in_err-quantity c = order_answers c.args.terms _ (search rules)

pub returns-in_err-order_legs : goal.returns-in_err-order_legs
returns-in_err-order_legs c =
    let p = err_from_is_err_and c.from_residual-in_err-order_legs.result c.from_residual-in_err-order_legs.ensures.1 in
    let fits : SFits w32 c.args.terms.quantity = search rules in
    let quantity = simp to_z-of_z at c.in_ok-quantity.ensures in
    let answer : map_ok entered_order c.from_residual-in_err-order_legs.result ≡ checked_order c.args.terms =
    rw (p.1, p.2) (stops_legs c.args.terms (listed c.in_ok-legs.legs) _ _ c.in_ok-legs.ensures (sym c.limit_in_range.ensures ∙ c.if-not-limit_in_range.false) quantity c.in_err-order_legs.ensures) in
    order_answers c.args.terms _ answer

pub returns : goal.returns
returns c = order_answers c.args.terms _ (search rules)
