-- The series of an order's legs.
use Rattle.std.specs.List.{position_from}
use Rattle.std.specs.Prelude.{ℕ, cond, not, List, [], ◌∷◌, map, length, Some, None, Ok, Option, Result, nat_eq, nat_lt, slice_index_or}
use Rattle.strategy.specs.declared.leg.Leg.{Leg}
use Rattle.strategy.specs.declared.leg.Series.{Series}
use Rattle.market.specs.declared.leg.TradedLeg.{TradedLeg}
use Rattle.orders.specs.declared.fault.GateFault.{GateFault}
use Rattle.orders.specs.declared.fault.GateFault.TheVariants.{NotListed, Underlying}
use Rattle.orders.specs.Checks.{check_at, first_bad}
use Rattle.listing.specs.Listing.{no_series}

-- the first leg whose series is not listed
abbrev pub first_unlisted : List Series → List TradedLeg → Option ℕ
first_unlisted t gs = first_bad (λ g. nat_lt g.series (length t)) 1 gs

abbrev pub series_of : List Series → TradedLeg → Series
series_of t g = slice_index_or t g.series no_series

-- the first leg with another underlying
abbrev pub first_other : List Series → ℕ → List TradedLeg → Option ℕ
first_other t u gs = first_bad (λ g. nat_eq (series_of t g).underlying u) 1 gs

-- the first leg whose underlying differs from that of leg 1
abbrev pub differing : List Series → List TradedLeg → Option ℕ
differing t [] = None
differing t (g ∷ gs) = first_other t (series_of t g).underlying (g ∷ gs)

abbrev pub option_leg : List Series → TradedLeg → Leg
option_leg t g = record { side = g.side; ratio = g.ratio; series = series_of t g }

-- a leg with its series, if that is listed
abbrev pub listed_leg : List Series → TradedLeg → Option Leg
listed_leg t g = cond (nat_lt g.series (length t)) (Some (option_leg t g)) None

-- the legs with their series, or the first whose series is not listed
abbrev pub listed_legs : List Series → List TradedLeg → Result (List Leg) GateFault
listed_legs t gs = check_at (first_unlisted t gs) NotListed (Ok (map (option_leg t) gs))

-- the first leg whose underlying differs from that of leg 1, where the legs have their series
abbrev pub other_underlying : List Leg → Option ℕ
other_underlying [] = None
other_underlying (l ∷ ls) = position_from (λ x. not (nat_eq x.series.underlying l.series.underlying)) 1 (l ∷ ls)

-- the legs with their series, or why they are refused
abbrev pub resolving : List Series → List TradedLeg → Result (List Leg) GateFault
resolving t gs = check_at (first_unlisted t gs) NotListed (check_at (differing t gs) Underlying (Ok (map (option_leg t) gs)))
