use Rattle.std.proofs.Common.{sym, ◌∙◌}
use Rattle.fills.specs.Fills.{taken_side}
use Rattle.fills.proofs.Units.{after_takes}
use Rattle.fills.proofs.Quotes.{filled, fill_law, low_buy}
use Rattle.fills.proofs.execution.execute.Goals as goal

pub returns : goal.returns
returns g c =
    let b = g.M.Market.levels c.args.market.now in
    let o = c.args.order.now in
    let e = sym c.in_ok-fill.was ∙ c.quotation.ensures.answer in
    let has = filled b o c.args.remaining c.args.buffers _ e in
    record {
      answer = e;
      fill = has;
      law = fill_law b o c.args.remaining c.args.buffers _ e;
      low = low_buy b o c.args.remaining c.args.buffers _ e;
      after = after_takes b (g.M.Market.levels c.take_legs.new.market) (taken_side o.side) _ _ o.legs.legs _ o.legs.sound has.shown c.taken_side-side.ensures c.as_legs.ensures.value c.take_legs.ensures.after;
      same = c.take_legs.ensures.same;
    }
