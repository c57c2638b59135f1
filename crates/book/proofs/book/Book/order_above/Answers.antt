use Rattle.std.proofs.Common.{◌≡◌, ◌≤◌, true, false, leb, IfSome, sym, ap, ◌∙◌, subst, rules, of_calls}
use Rattle.std.specs.List.{slice_get}
use Rattle.std.specs.List.Sorted.{IsPartitionPoint}
use Rattle.std.proofs.lemmas.Fn.{always_returns_same}
use Rattle.std.proofs.lemmas.List.Sorted.{IsPartitionedBy-leb}
use Rattle.book.specs.Resting.{rest, NextOrderIs}
use Rattle.book.specs.Tables.{orderly}
use Rattle.book.specs.Books.{in_use, resting}
use Rattle.book.proofs.Next.{rising, next_at, few_at, got}
use Rattle.book.proofs.book.Book.order_above.Goals as goal

pub returns : goal.returns
returns c =
    let s = c.args.self.now in
    let n = c.args.number in
    let i = c.partition_point-place.result in
    let os = c.deref.result.now in
    let ordered : orderly 0 s.given os ≡ true = ap (orderly 0 s.given) c.deref.ensures.0 ∙ s.orderly in
    let point : IsPartitionPoint (λ o. leb o.number n ≡ true) (λ o. leb o.number n ≡ false) os i =
    c.partition_point-place.ensures.partitioned (λ o. leb o.number n) (always_returns_same _ _ _ (λ a r f k. search (rules, of_calls))) (IsPartitionedBy-leb (λ o. o.number) os n (rising 0 s.given os ordered)) in
    let here : IsPartitionPoint (λ o. leb o.number n ≡ true) (λ o. leb o.number n ≡ false) (in_use s) i = rw c.deref.ensures.0 at point in
    let e : c.copied.result ≡ slice_get (in_use s) i = c.copied.ensures ∙ got c.deref-2.result.now i c.get.result c.get.ensures.lookup.0 c.get.ensures.lookup.1 ∙ ap (λ xs. slice_get xs i) c.deref-2.ensures.0 in
    record {
      next = subst (λ r. NextOrderIs (resting s) n (rest r)) (sym e) (next_at 0 s.given n i (in_use s) s.orderly here);
      small = subst (λ r. IfSome r (λ o. o.number ≤ 50000)) (sym e) (few_at 0 s.given i (in_use s) s.orderly s.numbered);
    }
