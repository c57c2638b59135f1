use Rattle.std.proofs.Common.{◌<◌, length, set, Err, sym, ap, ◌∙◌, arith}
use Rattle.std.proofs.lemmas.Result.{err_from_is_err_and}
use Rattle.market.specs.Levels.{replaced}
use Rattle.market.specs.Sides.{opposite}
use Rattle.venues.specs.Sizes.{set_answer, set_after}
use Rattle.venues.specs.LevelCalls.{level_answer, level_after}
use Rattle.venues.specs.Ladders.{rows_levels}
use Rattle.venues.specs.Rows.{row_at, row_side, rows_ordered, rows_uncrossed}
use Rattle.venues.proofs.Shown.{call_left, level_shows}
use Rattle.venues.proofs.ladder.Ladder.level.Goals as goal

pub returns : goal.returns
returns c =
    let l = c.args.self.now in
    let read = c.in_ok-series.ensures.value in
    let low = c.in_ok-series.ensures.bounds.0 in
    let within : c.in_ok-series.series < length l.series = omega arith in
    let d = c.index-self-series.result in
    let k = c.in_ok-series.series in
    let p = c.in_ok-series.level.price in
    let n = c.in_ok-series.level.size in
    let x = c.args.terms in
    let s = x.side in
    let row = sym (row_at l.series k within d) in
    let answer = c.level.ensures.answer ∙ ap (λ f. set_answer s p n (f s) (f (opposite s))) row ∙ ap (level_answer (rows_levels l.series) s) read in
    let after = row_side l.series k within d c.level.new.self s _ c.level.ensures.after ∙ ap (λ f. replaced (rows_levels l.series) k s (set_after s p n (f s) (f (opposite s)))) row ∙ call_left (rows_levels l.series) k s p n (rows_levels l.series k (opposite s)) ∙ ap (level_after (rows_levels l.series) s) read in
    record {
      answer = answer;
      after = after;
      shown = λ ok. level_shows 15 (rows_levels l.series) _ x (λ j. rows_ordered l.series j s) (sym answer ∙ ok) after;
      uncrossed = rows_uncrossed (set l.series k c.level.new.self);
    }

pub returns-in_err-series : goal.returns-in_err-series
returns-in_err-series c =
    let l = c.args.self.now in
    let read = c.in_err-series.ensures.value in
    let e = err_from_is_err_and c.from_residual.result c.from_residual.ensures.1 in
    let answer = e.1 ∙ ap Err e.2 ∙ ap (level_answer (rows_levels l.series) c.args.terms.side) read in
    let after = ap (level_after (rows_levels l.series) c.args.terms.side) read in
    record {
      answer = answer;
      after = after;
      shown = λ ok. level_shows 15 (rows_levels l.series) (rows_levels l.series) c.args.terms (λ j. rows_ordered l.series j c.args.terms.side) (sym answer ∙ ok) after;
      uncrossed = rows_uncrossed l.series;
    }
