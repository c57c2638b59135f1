use Rattle.std.proofs.Common.{◌≡◌, nat_eq, count_by, rules}
use Rattle.std.specs.Bool.{Decides}
use Rattle.std.specs.List.{list_all}
use Rattle.std.proofs.lemmas.Bool.Decides.{Decides-eqb}
use Rattle.std.proofs.lemmas.Iterator.{YieldsList-from_slice}
use Rattle.std.proofs.lemmas.Iterator.Search.{all_from_yields_List}
use Rattle.strategy.specs.Reordering.{Reordered}
use Rattle.strategy.specs.declared.leg.Leg.{Leg}
use Rattle.strategy.specs.contracts.leg.LegPartialEq.TheImpl.{ghosts}
use Rattle.strategy.proofs.Reorder.{length_reordered}
use Rattle.strategy.proofs.Counted.{counted}
use Rattle.strategy.proofs.any_order.are_reordered.Goals as goal

same : (x y : Leg) → Decides (ghosts.eq x y) (x ≡ y)
same x y = search rules

pub returns-then-these-those : goal.returns-then-these-those
returns-then-these-those c =
    let f : c.all.result ≡ list_all (λ x. nat_eq (count_by (λ y. ghosts.eq y x) c.args.these.now) (count_by (λ y. ghosts.eq y x) c.args.those.now)) c.args.these.now =
    all_from_yields_List _ _ _ c.all.result c.all.ensures.ran (YieldsList-from_slice _ c.iter.ensures.rest) (λ x b q k. search rules) in
    rw f (counted ghosts.eq same c.args.these.now c.args.those.now c.if-these-those.true)

pub returns-else-these-those : goal.returns-else-these-those
returns-else-these-those c =
    let no : Reordered c.args.these.now c.args.those.now → ⊥ = λ r. c.if-these-those.false (length_reordered _ _ r) in
    (λ h. absurd (c.if-these-those.false ((Decides-eqb _ _).0 h)), λ r. absurd (no r))
