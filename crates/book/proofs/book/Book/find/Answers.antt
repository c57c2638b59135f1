use Rattle.std.proofs.Common.{get_or, Some, sym, ap, ◌∙◌}
use Rattle.orders.specs.Quantities.{in_range}
use Rattle.book.specs.Resting.{rest}
use Rattle.book.proofs.Tables.{no_place, named, resting_is, range_is}
use Rattle.book.proofs.book.Book.find.Goals as goal

pub returns-in_err-place-clause-is : goal.returns-in_err-place-clause-is
returns-in_err-place-clause-is c = ap rest c.from_residual.ensures ∙ sym (no_place c.args.self.now c.args.number (sym c.place.ensures ∙ c.in_err-place.was))

pub returns : goal.returns
returns c =
    let s = c.args.self.now in
    let n = c.args.number in
    let i = c.in_ok-place.place in
    let at = sym c.place.ensures ∙ c.in_ok-place.was in
    let d = c.index-deref-place.result in
    let here = c.index-deref-place.is ∙ ap (λ os. get_or os i d) c.deref.ensures.0 in
    record {
      is = ap (λ o. rest (Some o)) here ∙ sym (resting_is s n i at d);
      sound = (ap (λ o. o.number) here ∙ named s n i at d, ap (λ o. in_range o.remaining) here ∙ range_is s n i at d);
    }
