-- Legs, written out, and turning: every leg on the other side.
use Rattle.std.specs.Prelude.{ℕ, Bool, true, false, List, map}
use Rattle.strategy.specs.declared.leg.Kind.{Kind}
use Rattle.strategy.specs.declared.leg.Side.{Side}
use Rattle.strategy.specs.declared.leg.Side.TheVariants.{Buy, Sell}
use Rattle.strategy.specs.declared.leg.Series.{Series}
use Rattle.strategy.specs.declared.leg.Leg.{Leg}

-- an option series: underlying, kind, strike, expiry
abbrev pub option : ℕ → Kind → ℕ → ℕ → Series
option u k strike expiry = record { underlying = u; kind = k; strike = strike; expiry = expiry }

abbrev pub buy : ℕ → Series → Leg
buy n s = record { side = Buy; ratio = n; series = s }

abbrev pub sell : ℕ → Series → Leg
sell n s = record { side = Sell; ratio = n; series = s }

abbrev pub opposite : Side → Side
opposite Buy = Sell
opposite Sell = Buy

abbrev pub turned_side : Bool → Side → Side
turned_side true side = opposite side
turned_side false side = side

abbrev pub flipped : Leg → Leg
flipped l = record { side = opposite l.side; ratio = l.ratio; series = l.series }

-- the legs in turned terms: every side flipped, or all as they are
abbrev pub turned_legs : Bool → List Leg → List Leg
turned_legs true legs = map flipped legs
turned_legs false legs = legs
