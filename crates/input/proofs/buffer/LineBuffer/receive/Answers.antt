use Rattle.std.proofs.Common.{◌+◌, ◌++◌, take, drop, sym, ap, ◌∙◌, arith, length-drop, length-take}
use Rattle.input.proofs.Cuts.{take_both, from_zero}
use Rattle.input.proofs.buffer.LineBuffer.receive.Goals as goal

pub returns : goal.returns
returns g c =
    let b = c.make_room.new.self in
    let n = c.in_ok-n.n in
    let bytes = c.read_behind.new.bytes in
    let told = c.in_ok-n.ensures in
    let front = c.make_room.ensures.front in
    record {
      came = take n (drop b.ahead.end bytes);
      count = simp (length-take, length-drop) (omega (arith, told.room, told.len));
      is =
          from_zero b.ahead.start (b.ahead.end + n) bytes front ∙ take_both b.ahead.end n bytes
          ∙ ap (λ xs. xs ++ take n (drop b.ahead.end bytes)) (told.front ∙ sym (from_zero b.ahead.start b.ahead.end b.bytes front) ∙ c.make_room.ensures.waiting);
    }
