use Rattle.std.proofs.Common.{sym, ap, ◌∙◌, arith}
use Rattle.std.proofs.lemmas.Int.{ints}
use Rattle.market.specs.Levels.{best_of}
use Rattle.market.proofs.Nets.{net_some, net_none, net_all}
use Rattle.market.proofs.net.net_side.Goals as goal

pub returns-in_err-level : goal.returns-in_err-level
returns-in_err-level g c =
    c.from_residual.ensures
    ∙ sym (net_none (g.M.Market.levels c.args.market.now) c.args.side c.args.legs.now c.loop-leg.leg-index c.loop-leg-test.true _ c.used_side.ensures _ (c.best.ensures ∙ ap (λ k. best_of (g.M.Market.levels c.args.market.now k c.used_side.result)) c.from.ensures) _ c.loop-leg.invariant.3 c.in_err-level.was)

pub overflow_add-sum : goal.overflow_add-sum
overflow_add-sum g c = omega (arith, ints)

pub loop-leg-preserved : goal.loop-leg-preserved
loop-leg-preserved g c = (
  omega arith,
  omega (arith, ints),
  omega (arith, ints),
  net_some (g.M.Market.levels c.args.market.now) c.args.side c.args.legs.now c.loop-leg.leg-index c.loop-leg-test.true _ c.used_side.ensures _ (c.best.ensures ∙ ap (λ k. best_of (g.M.Market.levels c.args.market.now k c.used_side.result)) c.from.ensures) _ c.loop-leg.invariant.3 _ c.in_ok-level.was _ _ c.signed_price-sum.ensures.value (omega (arith, ints)),
)

pub returns : goal.returns
returns g c = net_all (g.M.Market.levels c.args.market.now) c.args.side c.args.legs.now c.loop-leg.leg-index _ c.loop-leg-test.false c.loop-leg.invariant.3
