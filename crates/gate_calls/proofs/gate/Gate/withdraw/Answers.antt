use Rattle.std.proofs.Common.{◌≡◌, Some, sym, ap, ◌∙◌, w32, rules, arith}
use mir.ValLaws.{to_z-of_z}
use Rattle.book.specs.Resting.{resting_of}
use Rattle.book.specs.Books.{resting, count, last}
use Rattle.days.specs.State.{lookup}
use Rattle.gate_calls.specs.Model.{state}
use Rattle.gate_calls.proofs.Settling.{withdrawn}
use Rattle.gate_calls.proofs.gate.Gate.withdraw.Goals as goal

pub returns : goal.returns
returns c =
    let s = state c.args.self.now in
    let o = c.in_ok-order.order in
    let b = c.remove.new.self in
    let same = to_z-of_z w32 c.args.number c.ranges.number in
    let found : c.resting.result ≡ Some o = grind arith in
    let is = rw found at c.resting.ensures.is in
    let named = rw found at c.resting.ensures.named in
    record {
      answer = search rules;
      after = withdrawn s c.args.number o.number (resting_of o) (last b) (count b) (resting b) (sym same ∙ named) (is ∙ ap (lookup s.order) same) c.remove.ensures.last c.remove.ensures.count c.remove.ensures.rests;
    }
