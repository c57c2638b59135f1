use Rattle.std.proofs.Common.{◌≡◌, ◌<◌, get_or, length, Less, Equal, Greater, sym, ap, ◌∙◌, refl, arith}
use Rattle.std.proofs.lemmas.Cmp.{ranked}
use Rattle.std.proofs.lemmas.List.{length-set}
use Rattle.book.specs.Resting.{leaving}
use Rattle.book.specs.Tables.{orderly, look}
use Rattle.book.specs.Books.{in_use}
use Rattle.book.proofs.Looks.{orderly_removed}
use Rattle.book.proofs.Tables.{no_place, inside}
use Rattle.book.proofs.Changes.{none_reduced, leaving_one, leaving_none, leaves_filled, less, written, stays, orderly_less, unchanged}
use Rattle.book.proofs.book.Book.reduce.Goals as goal

pub returns-in_default : goal.returns-in_default
returns-in_default c =
    let s = c.args.self.now in
    let none = no_place s c.args.number (sym c.place.ensures ∙ c.in_default.is) in
    record { rests = none_reduced s c.args.number none c.args.units; count = omega (arith, ap (λ r. leaving r c.args.units) none); last = refl }

pub invariant_of-self-in-Equal : goal.invariant_of-self-in-Equal
invariant_of-self-in-Equal c =
    let s = c.args.self.now in
    record { numbered = s.numbered; orderly = ap (orderly 0 s.given) c.remove.ensures.items ∙ orderly_removed 0 s.given (in_use s) c.in-Some.place s.orderly }

pub returns-in-Equal : goal.returns-in-Equal
returns-in-Equal c =
    let s = c.args.self.now in
    let i = c.in-Some.place in
    let d = c.index-deref-place.result in
    let at = sym c.place.ensures ∙ c.in-Some.is in
    let all : c.args.units ≡ (get_or (in_use s) i d).remaining = ranked _ _ Equal (rw c.deref.ensures.0 at c.in-Equal.ensures) in
    record {
      rests = ap look c.remove.ensures.items ∙ leaves_filled s c.args.number i at d c.args.units all;
      count = omega (arith, leaving_one s c.args.number i at d c.args.units all, c.remove.ensures.len);
      last = refl;
    }

pub returns-in-Greater : goal.returns-in-Greater
returns-in-Greater c =
    let s = c.args.self.now in
    let i = c.in-Some.place in
    let d = c.index-deref-place.result in
    let at = sym c.place.ensures ∙ c.in-Some.is in
    let more : (get_or (in_use s) i d).remaining < c.args.units = ranked _ _ Greater (rw c.deref.ensures.0 at c.in-Greater.ensures) in
    record {
      rests = unchanged s c.args.number i at d c.args.units more;
      count = omega (arith, leaving_none s c.args.number i at d c.args.units (λ e. omega arith));
      last = refl;
    }

pub invariant_of-self : goal.invariant_of-self
invariant_of-self c =
    let s = c.args.self.now in
    let i = c.in-Some.place in
    let d = c.index-deref-place.result in
    let at = sym c.place.ensures ∙ c.in-Some.is in
    let part : c.args.units < (get_or (in_use s) i d).remaining = ranked _ _ Less (rw c.deref.ensures.0 at c.in-Less.ensures) in
    record {
      numbered = s.numbered;
      orderly = ap (orderly 0 s.given) (written s.orders _ i c.args.units d _ _ c.deref_mut.ensures.value (inside s c.args.number i at d)) ∙ orderly_less s c.args.number i at d c.args.units part;
    }

pub returns-in-Less : goal.returns-in-Less
returns-in-Less c =
    let s = c.args.self.now in
    let i = c.in-Some.place in
    let d = c.index-deref-place.result in
    let at = sym c.place.ensures ∙ c.in-Some.is in
    let part : c.args.units < (get_or (in_use s) i d).remaining = ranked _ _ Less (rw c.deref.ensures.0 at c.in-Less.ensures) in
    let after = written s.orders _ i c.args.units d _ _ c.deref_mut.ensures.value (inside s c.args.number i at d) in
    record {
      rests = ap look after ∙ stays s c.args.number i at d c.args.units part;
      count = omega (arith, ap length after, length-set (in_use s) i (less (get_or (in_use s) i d) c.args.units), leaving_none s c.args.number i at d c.args.units (λ e. omega arith));
      last = refl;
    }
