use Rattle.std.proofs.Common.{◌≡◌, ℕ, ◌<◌, length, get_or, arith, of_calls}
use mathlib.Core.Path.{fun_ext}
use Rattle.venues.specs.declared.series.SeriesDepth.{SeriesDepth}
use Rattle.venues.specs.SeriesDepths.{no_depth, series_levels}
use Rattle.venues.specs.Rows.{rows_new}
use Rattle.venues.proofs.ladder.Ladder.new.Goals as goal

pub returns : goal.returns
returns c =
    let made = c.from_fn.ensures.items in
    let empty = λ (k : ℕ) (d : SeriesDepth) (h : k < length c.from_fn.result). let e = made.at k d (omega (arith, made.long)) in let r : series_levels (get_or c.from_fn.result k d) ≡ no_depth = search (of_calls, e.2.met) in r in
    fun_ext (λ k. rows_new c.from_fn.result empty k)
