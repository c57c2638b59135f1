-- What a fill has, of an order and a fill seen from outside.
use Rattle.std.specs.Prelude.{◌≡◌, ℕ, ◌*◌, ◌<◌, ◌≤◌, true, false, map, ℤ, Some, None}
use Rattle.std.specs.List.{AllByRecursion}
use Rattle.market.specs.Levels.{Levels}
use Rattle.market.specs.Net.{net_side}
use Rattle.market.specs.Takes.{can_take_legs}
use Rattle.orders.specs.TurnedTerms.{Terms}
use Rattle.fills.specs.Fills.{taken_side, used_level, lacking, leg_fill, past_limit}
use Rattle.fills.specs.Fillings.{Filling}

-- What a fill is: at most what remains, at least one unit if any remains, ratio times units in the first level of every leg, so
-- that they can be taken in one go, the net price that the order takes, within its limit, and each leg at the price of its first level.
pub record IsFilling (b : Levels) (o : Terms) (remaining : ℕ) (f : Filling) : Type 0 where
  pub within : f.units ≤ remaining
  pub some : 0 < remaining → 0 < f.units
  pub shown : AllByRecursion (λ g. g.ratio * f.units ≤ (used_level b (taken_side o.side) g).size) o.legs
  pub takeable : 0 < f.units → can_take_legs b (taken_side o.side) f.units o.legs ≡ true
  pub price : net_side b o.legs (taken_side o.side) ≡ Some f.net
  pub inside : past_limit o.side f.net o.limit ≡ false
  pub legs : f.legs ≡ map (leg_fill b (taken_side o.side)) o.legs

-- every leg has its ratio, and the net price is within the limit
pub record ReachesNet (b : Levels) (o : Terms) (net : ℤ) : Type 0 where
  pub enough : lacking b (taken_side o.side) o.legs ≡ None
  pub price : net_side b o.legs (taken_side o.side) ≡ Some net
  pub inside : past_limit o.side net o.limit ≡ false
