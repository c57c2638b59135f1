use Rattle.std.proofs.Common.{ℕ, ◌+◌, ◌-◌, ◌/◌, refl, arith}
use Rattle.std.proofs.lemmas.Bool.{both_ways}
use Rattle.strategy.proofs.Span.{butterfly_read, ButterflyRead}
use Rattle.strategy.proofs.class.butterfly_width.Goals as goal
use Rattle.strategy.proofs.class.butterfly_width.Goals.{else-width-gt0-via-then-width-gt0+then-middle-width+else-are_reordered, else-width-gt0-via-then-width-gt0+else-middle-width, else-width-gt0-via-else-width-gt0}

pub returns-else-width-gt0 : goal.returns-else-width-gt0
returns-else-width-gt0 c n v =
    let width : ℕ = (c.max-high.result - c.min-low.result) / 2 in
    let middle : ℕ = c.min-low.result + width in
    let r : ButterflyRead c.args.a c.args.b c.args.c c.min-low.result middle c.max-high.result width =
    butterfly_read c.args.a c.args.b c.args.c n v c.min-low.result c.max-high.result width middle (omega arith) (omega arith) refl refl in
    elim c.else-width-gt0.branch [
      | else-width-gt0-via-then-width-gt0+then-middle-width+else-are_reordered w ↦
          both_ways w.are_reordered.result w.if-are_reordered.false (w.are_reordered.ensures.1 (rw c.butterfly-form.ensures r.legs_are))
      | else-width-gt0-via-then-width-gt0+else-middle-width w ↦ omega arith
      | else-width-gt0-via-else-width-gt0 w ↦ omega arith
    ]
