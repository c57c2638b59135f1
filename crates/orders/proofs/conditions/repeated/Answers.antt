use Rattle.std.proofs.Common.{◌≡◌, ◌+◌, length, sym, ap, ◌∙◌, arith, rules, tests}
use Rattle.std.specs.Option.{option_map}
use Rattle.std.proofs.lemmas.Iterator.{YieldsList-from_range}
use Rattle.std.proofs.lemmas.Iterator.Adapters.{option_map_id}
use Rattle.std.proofs.lemmas.Iterator.Search.{find_from_yields_List}
use Rattle.orders.proofs.LegChecks.{named_before, repeated_find}
use Rattle.orders.proofs.conditions.repeated.Goals as goal

pub returns : goal.returns
returns c =
    let gs = c.args.legs.now in
    let numbered : c.map.result ≡ option_map (λ k. k + 1) c.find.result = search rules in
    numbered
    ∙ ap (option_map (λ k. k + 1)) (
    sym (option_map_id c.find.result)
    ∙ find_from_yields_List (named_before gs) _ _ c.find.result c.find.ensures.ran (YieldsList-from_range 0 (length gs) (length gs) (cc) (omega arith)) (λ x b q k. search (rules, tests))
    )
    ∙ repeated_find gs (length gs) 0 (omega arith)
