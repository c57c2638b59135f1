use Rattle.std.proofs.Common.{◌+◌, ◌≤◌, [], ◌∷◌, length, ◌∙◌, arith, length-take}
use Rattle.std.proofs.lemmas.List.{take_more_set}
use Rattle.line_writer.specs.Lines.{held}
use Rattle.line_writer.proofs.Adding.{there_is_room, no_room}
use Rattle.line_writer.proofs.line.Line.byte.Goals as goal

pub returns-then-self-lt-CAPACITY : goal.returns-then-self-lt-CAPACITY
returns-then-self-lt-CAPACITY c text e =
    let l = c.args.self.now in
    let long : length (held l) + 1 ≤ 160 = simp length-take (omega arith) in
    take_more_set l.bytes l.len c.args.b (omega arith) ∙ there_is_room (held l) text (c.args.b ∷ []) e long

pub returns-else-self-lt-CAPACITY : goal.returns-else-self-lt-CAPACITY
returns-else-self-lt-CAPACITY c text e =
    let l = c.args.self.now in
    let full : 160 ≤ length (held l) = simp length-take (omega arith) in
    no_room (held l) text (c.args.b ∷ []) e full
