use Rattle.std.proofs.Common.{◌≡◌, refl, ◌∙◌}
use Rattle.std.specs.List.{position_from}
use Rattle.std.proofs.lemmas.Iterator.{YieldsList-from_slice}
use Rattle.std.proofs.lemmas.Iterator.Search.{position_from_yields_List}
use Rattle.std.proofs.lemmas.Iterator.Adapters.{position_from-zero}
use Rattle.std.proofs.iter.Serving.{serving}
use Rattle.std.proofs.iter.Next.{says_at}
use Rattle.strategy.specs.Few.{listed}
use Rattle.strategy.proofs.Places.{placed}
use Rattle.strategy.proofs.legs.Legs.place_where.Goals as goal

pub position-requires-clause-callable : goal.position-requires-clause-callable
position-requires-clause-callable g c = grind serving

pub returns-in_err-place : goal.returns-in_err-place
returns-in_err-place g c p h =
    let at : c.position.result ≡ position_from p 0 (listed c.args.self.now) =
    position_from_yields_List p _ _ c.position.result c.position.ensures.ran (YieldsList-from_slice _ (c.iter.ensures.rest ∙ c.as_slice.ensures.value))
    (λ x b q k. (g.met.F.Fn.1.step_stays _ _ _ _ k, h x.now b (says_at g.F.Fn ((g.met.F.FnMut.1.post_iff _ _ _).1 (q, k)) refl)))
    ∙ position_from-zero p (listed c.args.self.now) in
    rw (c.from_residual.ensures, ← placed p (listed c.args.self.now) c.position.result at, c.in_err-place.was)

pub returns : goal.returns
returns g c p h =
    let at : c.position.result ≡ position_from p 0 (listed c.args.self.now) =
    position_from_yields_List p _ _ c.position.result c.position.ensures.ran (YieldsList-from_slice _ (c.iter.ensures.rest ∙ c.as_slice.ensures.value))
    (λ x b q k. (g.met.F.Fn.1.step_stays _ _ _ _ k, h x.now b (says_at g.F.Fn ((g.met.F.FnMut.1.post_iff _ _ _).1 (q, k)) refl)))
    ∙ position_from-zero p (listed c.args.self.now) in
    rw (← placed p (listed c.args.self.now) c.position.result at, c.in_ok-place.was)
