use Rattle.std.proofs.Common.{◌<◌, ◌≤◌, length, sym, refl, ap, ◌∙◌, arith}
use Rattle.market.specs.Levels.{can_take, take_answer, taken, replaced}
use Rattle.venues.specs.Ladders.{rows_levels}
use Rattle.market.proofs.Replaced.{refused_same}
use Rattle.venues.specs.Rows.{row_past, row_at, row_side}
use Rattle.venues.proofs.ladder.methods.LadderMarket.take.Goals as goal

pub returns-then-series-ge-SERIES : goal.returns-then-series-ge-SERIES
returns-then-series-ge-SERIES c =
    let l = c.args.self.now in
    let past : length l.series ≤ c.args.series = omega arith in
    let no = ap (λ ls. can_take ls c.args.n) (row_past l.series c.args.series c.args.side past) in
    record {
      answer = sym (ap (λ ls. take_answer ls c.args.n) (row_past l.series c.args.series c.args.side past));
      after = sym (refused_same (rows_levels l.series) c.args.series c.args.side c.args.n no);
      same = refl;
    }

pub returns : goal.returns
returns c =
    let l = c.args.self.now in
    let within : c.args.series < length l.series = omega arith in
    let d = c.index-self-series.result in
    let row = sym (row_at l.series c.args.series within d) in
    record {
      answer = c.take.ensures.answer ∙ ap (λ f. take_answer (f c.args.side) c.args.n) row;
      after = row_side l.series c.args.series within d c.take.new.self c.args.side _ c.take.ensures.after ∙ ap (λ f. replaced (rows_levels l.series) c.args.series c.args.side (taken (f c.args.side) c.args.n)) row;
      same = refl;
    }
