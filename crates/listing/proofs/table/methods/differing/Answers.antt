use Rattle.std.proofs.Common.{not, eqb, get_or, rules, tests}
use Rattle.strategy.proofs.Short.{no_leg}
use Rattle.strategy.specs.Few.{listed}
use Rattle.listing.proofs.Resolved.{other_from}
use Rattle.listing.proofs.table.methods.differing.Goals as goal

pub returns : goal.returns
returns c =
    let ls = listed c.args.legs.now in
    other_from ls no_leg _ (c.place_where.ensures (λ x. not (eqb x.series.underlying (get_or ls 0 no_leg).series.underlying)) (λ l b q. search (rules, tests)))
