use Rattle.std.proofs.Common.{arith}
use Rattle.std.proofs.lemmas.Bool.{both_ways}
use Rattle.strategy.proofs.Span.{vertical_read}
use Rattle.strategy.proofs.class.vertical_width.Goals as goal
use Rattle.strategy.proofs.class.vertical_width.Goals.{else-low-high-via-then-low-high+else-are_reordered, else-low-high-via-else-low-high}

pub returns-then-are_reordered : goal.returns-then-are_reordered
returns-then-are_reordered c =
    record {
      u = c.args.a.series.underlying;
      k = c.args.a.series.kind;
      low = c.min-low.result;
      high = c.max-high.result;
      e = c.args.a.series.expiry;
      wide = omega arith;
      apart = omega arith;
      legs_are = rw c.vertical-form.ensures at (c.are_reordered.ensures.0 c.if-are_reordered.true);
    }

pub returns-else-low-high : goal.returns-else-low-high
returns-else-low-high c n v =
    let r = vertical_read _ _ n v _ _ c.min-low.ensures c.max-high.ensures in
    elim c.else-low-high.branch [ else-low-high-via-then-low-high+else-are_reordered w ↦ both_ways _ w.if-are_reordered.false (w.are_reordered.ensures.1 (rw c.vertical-form.ensures r.1)) | else-low-high-via-else-low-high w ↦ omega arith ]
