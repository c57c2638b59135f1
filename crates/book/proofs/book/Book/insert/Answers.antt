use Rattle.std.proofs.Common.{◌+◌, refl, ap, ◌∙◌, arith}
use Rattle.book.specs.Tables.{orderly, look}
use Rattle.book.proofs.Tables.{orderly_more, look_more}
use Rattle.book.proofs.book.Book.insert.Goals as goal

pub invariant_of-self : goal.invariant_of-self
invariant_of-self c =
    let s = c.args.self.now in
    let units = c.units-remaining in
    record { numbered = omega arith; orderly = ap (orderly 0 (s.given + 1)) c.push.ensures.items ∙ orderly_more s (s.given + 1) units.result c.args.terms (omega arith) units.ensures.ranged }

pub returns-clause-after : goal.returns-clause-after
returns-clause-after c =
    let s = c.args.self.now in
    let units = c.units-remaining in
    (ap look c.push.ensures.items ∙ look_more s (s.given + 1) units.result c.args.terms (omega arith) _ units.ensures.value, c.push.ensures.len, refl, omega arith)
