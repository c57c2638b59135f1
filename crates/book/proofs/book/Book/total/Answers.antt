use Rattle.std.proofs.Common.{◌≡◌, length, sum_by, ◌∙◌, ap, arith, rules}
use Rattle.book.specs.Books.{in_use}
use Rattle.book.proofs.Tables.{total_is, total_few}
use Rattle.book.proofs.book.Book.total.Goals as goal

pub returns : goal.returns
returns c =
    let s = c.args.self.now in
    let e : c.sum.result ≡ sum_by (λ o. o.remaining) (in_use s) = search rules in
    record { value = e ∙ total_is s; small = omega (arith, total_few s, ap length c.deref.ensures.0, c.deref.ensures.1) }
