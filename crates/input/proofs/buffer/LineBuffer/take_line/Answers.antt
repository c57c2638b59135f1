use Rattle.std.proofs.Common.{◌≡◌, ◌+◌, ◌-◌, ◌<◌, min, drop, take, slice_range, sym, ap, ◌∙◌, subst, arith, length-take}
use Rattle.input.specs.Breaks.{BreakAt, Splits}
use Rattle.input.specs.Buffers.{waiting}
use Rattle.input.proofs.Cuts.{split, front_of, later}
use Rattle.input.proofs.buffer.LineBuffer.take_line.Goals as goal

pub returns : goal.returns
returns c =
    let b = c.args.self.now in
    let n = c.in-Some.n in
    let start = b.ahead.start in
    let end = b.ahead.end in
    let here : BreakAt (waiting b) n = subst (λ w. BreakAt w n) c.waiting.ensures c.in-Some.ensures in
    let inside : start + n < end = omega (arith, here.inside, length-take (end - start) (drop start b.bytes)) in
    let kept : slice_range b.bytes start (start + c.min.result) ≡ take (min n 513) (waiting b) =
    front_of start end c.min.result b.bytes (omega (arith, c.min.ensures)) ∙ ap (λ k. take k (waiting b)) c.min.ensures in
    let after = later start end (n + 1) b.bytes (omega arith) in
    subst (λ l. Splits (waiting b) l (slice_range b.bytes (start + (n + 1)) end)) (sym kept) (subst (λ l. Splits (waiting b) (take (min n 513) (waiting b)) l) after (split (waiting b) n here))
