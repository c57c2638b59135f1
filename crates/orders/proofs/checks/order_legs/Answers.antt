use Rattle.std.proofs.Common.{Ok, sym, ap, ◌∙◌}
use Rattle.std.proofs.lemmas.Bool.{or_left, or_right, or_from}
use Rattle.strategy.specs.Few.{listed}
use Rattle.orders.proofs.Verdicts.{stops_repeated, stops_ratios, passes, passes_sound}
use Rattle.orders.proofs.checks.order_legs.Goals as goal
use Rattle.orders.proofs.checks.order_legs.Goals.{then-uneven-via-then-uneven, then-uneven-via-else-uneven+then-reducible}

pub returns-in-Some : goal.returns-in-Some
returns-in-Some c = stops_repeated (listed c.args.legs) (listed c.in_ok-legs.legs) _ c.in_ok-legs.ensures c.as_slice-all.ensures.value _ c.repeated.ensures _ c.in-Some.is

pub returns-then-uneven : goal.returns-then-uneven
returns-then-uneven c =
    stops_ratios (listed c.args.legs) (listed c.in_ok-legs.legs) _ c.in_ok-legs.ensures c.as_slice-all.ensures.value _ c.repeated.ensures c.in_default.is
    (elim c.then-uneven.branch [
      | then-uneven-via-then-uneven w ↦ or_left _ _ (sym c.uneven.ensures ∙ w.if-uneven.true)
      | then-uneven-via-else-uneven+then-reducible w ↦ or_right _ _ (sym w.reducible.ensures ∙ w.if-reducible.true)
    ])

pub new-requires : goal.new-requires
new-requires c = passes_sound (listed c.args.legs) (listed c.in_ok-legs.legs) _ c.in_ok-legs.ensures c.as_slice-all.ensures.value _ c.repeated.ensures c.in_default.is

pub returns : goal.returns
returns c =
    ap (λ l. Ok (listed l)) c.new.ensures
    ∙ passes (listed c.args.legs) (listed c.in_ok-legs.legs) _ c.in_ok-legs.ensures c.as_slice-all.ensures.value _ c.repeated.ensures c.in_default.is (or_from _ _ (sym c.uneven.ensures ∙ c.if-uneven.false) (sym c.reducible.ensures ∙ c.if-reducible.false))
