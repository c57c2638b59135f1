use Rattle.std.proofs.Common.{◌≡◌, ℕ, Ok, Err, sym, refl, ap, ◌∙◌, arith}
use Rattle.std.proofs.lemmas.Bool.{and_from, cond-true}
use Rattle.strategy.specs.Few.{listed}
use Rattle.market.specs.declared.quote.MarketFault.TheVariants.{Take}
use Rattle.market.specs.Takes.{all_ready, distinct, can_take_legs, legs_taken}
use Rattle.market.proofs.LegTakes.{legs_in_turn, leg_answer, turn_more, taken_more, taken_all}
use Rattle.market.proofs.takes.take_legs.Goals as goal

pub loop-leg-init : goal.loop-leg-init
loop-leg-init g c = (legs_in_turn (g.M.Market.levels c.args.market.now) c.args.net c.args.units c.as_slice-legs.result.now (sym c.are_distinct.ensures ∙ c.if-not-are_distinct.false) (sym c.are_ready.ensures ∙ c.if-not-are_ready.false), refl, refl)

pub returns-in_err-take : goal.returns-in_err-take
returns-in_err-take g c =
    let ok = leg_answer c.as_slice-legs.result.now c.loop-leg.leg-index c.loop-leg-test.true (g.M.Market.levels c.loop-leg.market) c.args.net c.args.units c.from.result c.from.ensures c.used_side.result c.used_side.ensures c.contracts.result c.contracts.ensures c.loop-leg.invariant.0 in
    let no = sym c.in_err-take.was ∙ c.take.ensures.answer ∙ ok in
    let z : ◌≡◌ {A = ℕ} 0 1 = cc in absurd (omega arith)

pub loop-leg-preserved : goal.loop-leg-preserved
loop-leg-preserved g c = (
  turn_more c.as_slice-legs.result.now c.loop-leg.leg-index c.loop-leg-test.true (g.M.Market.levels c.loop-leg.market) c.args.net c.args.units c.from.result c.from.ensures c.used_side.result c.used_side.ensures c.contracts.result c.contracts.ensures c.loop-leg.invariant.0 (g.M.Market.levels c.take.new.self) c.take.ensures.after,
  taken_more c.as_slice-legs.result.now c.loop-leg.leg-index c.loop-leg-test.true (g.M.Market.levels c.loop-leg.market) c.args.net c.args.units c.from.result c.from.ensures c.used_side.result c.used_side.ensures c.contracts.result c.contracts.ensures c.loop-leg.invariant.0 (g.M.Market.levels c.take.new.self) c.take.ensures.after _ c.loop-leg.invariant.1,
  c.take.ensures.same ∙ c.loop-leg.invariant.2,
)

pub returns : goal.returns
returns g c =
    let b = g.M.Market.levels c.args.market.now in
    let q = c.args.net in
    let u = c.args.units in
    let gs = c.as_slice-legs.result.now in
    let legs = listed c.args.legs.now in
    let can = ap (can_take_legs b q u) (sym c.as_slice-legs.ensures.value) ∙ and_from (distinct gs) (all_ready b q u gs) (sym c.are_distinct.ensures ∙ c.if-not-are_distinct.false) (sym c.are_ready.ensures ∙ c.if-not-are_ready.false) in
    record {
      answer = sym (cond-true (can_take_legs b q u legs) (Ok tt) (Err Take) can);
      after = taken_all (g.M.Market.levels c.loop-leg.market) (legs_taken b q u gs) q u gs c.loop-leg.leg-index c.loop-leg-test.false c.loop-leg.invariant.1 ∙ ap (legs_taken b q u) c.as_slice-legs.ensures.value ∙ sym (cond-true (can_take_legs b q u legs) (legs_taken b q u legs) b can);
      same = c.loop-leg.invariant.2;
    }
