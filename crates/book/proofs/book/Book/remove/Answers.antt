use Rattle.std.proofs.Common.{get_or, sym, ap, ◌∙◌, refl, Some, arith}
use Rattle.book.specs.Resting.{units_of, one}
use Rattle.book.specs.Tables.{orderly, look}
use Rattle.book.specs.Books.{in_use}
use Rattle.book.proofs.Looks.{orderly_removed}
use Rattle.book.proofs.Tables.{range_high, no_place, resting_is, range_is}
use Rattle.book.proofs.Changes.{none_changed, leaves}
use Rattle.book.proofs.book.Book.remove.Goals as goal

pub returns-in_err-place : goal.returns-in_err-place
returns-in_err-place c =
    let s = c.args.self.now in
    let none = no_place s c.args.number (sym c.place.ensures ∙ c.in_err-place.was) in
    record { answer = c.from_residual.ensures ∙ sym (ap units_of none); small = rw c.from_residual.ensures tt; rests = none_changed s c.args.number none; count = omega (arith, ap one none); last = refl }

pub invariant_of-self : goal.invariant_of-self
invariant_of-self c =
    let s = c.args.self.now in
    record { numbered = s.numbered; orderly = ap (orderly 0 s.given) c.remove.ensures.items ∙ orderly_removed 0 s.given (in_use s) c.in_ok-place.place s.orderly }

pub returns : goal.returns
returns c =
    let s = c.args.self.now in
    let n = c.args.number in
    let i = c.in_ok-place.place in
    let at = sym c.place.ensures ∙ c.in_ok-place.was in
    let x = c.remove.result in
    let is = resting_is s n i at x in
    let here = c.remove.ensures.value in
    let few = range_high (get_or (in_use s) i x).remaining (range_is s n i at x) in
    record {
      answer = ap (λ o. Some o.remaining) here ∙ sym (ap units_of is);
      small = omega (arith, few, ap (λ o. o.remaining) here);
      rests = ap look c.remove.ensures.items ∙ leaves s n i at x;
      count = omega (arith, ap one is, c.remove.ensures.len);
      last = refl;
    }
