use Rattle.std.proofs.Common.{◌≡◌, ◌*◌, ◌≤◌, length, drop, pos, neg_ℤ, ◌≤ℤ◌, Some}
use Rattle.market.specs.Net.{plus, net_side}
use Rattle.market.proofs.net.net_side.Given as goal

abbrev pub invariant-loop-leg : goal.invariant-loop-leg
invariant-loop-leg g l =
    (l.leg-index ≤ length l.legs) × (neg_ℤ (pos (16711425 * l.leg-index)) ≤ℤ l.sum) × (l.sum ≤ℤ pos (16711425 * l.leg-index))
    × (plus (Some l.sum) (net_side (g.M.Market.levels l.market) (drop l.leg-index l.legs) l.side) ≡ net_side (g.M.Market.levels l.market) l.legs l.side)
