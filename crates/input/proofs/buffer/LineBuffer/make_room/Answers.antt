use Rattle.std.proofs.Common.{arith}
use Rattle.input.proofs.Cuts.{moved}
use Rattle.input.proofs.buffer.LineBuffer.make_room.Goals as goal

pub returns-clause-waiting : goal.returns-clause-waiting
returns-clause-waiting c =
    let b = c.args.self.now in
    moved b.ahead.start b.ahead.end c.min-n.result b.bytes c.copy_within.new.self (omega arith) (cc (c.waiting.ensures, c.min-n.ensures)) c.copy_within.ensures.after
