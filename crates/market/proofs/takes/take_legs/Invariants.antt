use Rattle.std.proofs.Common.{◌≡◌, drop}
use Rattle.market.specs.Takes.{legs_taken}
use Rattle.market.proofs.LegTakes.{InTurn}
use Rattle.market.proofs.takes.take_legs.Given as goal

abbrev pub invariant-loop-leg : goal.invariant-loop-leg
invariant-loop-leg g l =
    let levels = g.M.Market.levels in
    InTurn (levels l.market) l.net l.units (drop l.leg-index l.legs)
    × (legs_taken (levels l.market) l.net l.units (drop l.leg-index l.legs) ≡ legs_taken (levels l.initial.market) l.net l.units l.legs)
    × (g.M.Market.count l.market ≡ g.M.Market.count l.initial.market)
