-- What is taken of each leg for some units of a strategy.
use Rattle.std.specs.Prelude.{◌≡◌, ℕ, ◌*◌, Bool, true, not, ◌&&◌, List, [], ◌∷◌, ◌==◌, ◌≢◌}
use Rattle.std.specs.List.{AllByRecursion, list_any, list_all}
use Rattle.market.specs.declared.quote.QuoteSide.{QuoteSide}
use Rattle.market.specs.declared.leg.TradedLeg.{TradedLeg}
use Rattle.market.specs.Levels.{Levels, can_take, taken_at}
use Rattle.market.specs.Net.{used_side}

-- whether the first level that a leg's net price uses has ratio times u contracts
abbrev pub leg_ready : Levels → QuoteSide → ℕ → TradedLeg → Bool
leg_ready b q u g = can_take (b g.series (used_side g.side q)) (g.ratio * u)

abbrev pub all_ready : Levels → QuoteSide → ℕ → List TradedLeg → Bool
all_ready b q u gs = list_all (leg_ready b q u) gs

-- whether one of some legs is in the series k
abbrev pub in_series : ℕ → List TradedLeg → Bool
in_series k gs = list_any (λ g. g.series == k) gs

-- whether all legs are in different series
abbrev pub distinct : List TradedLeg → Bool
distinct [] = true
distinct (g ∷ gs) = not (in_series g.series gs) && distinct gs

-- whether u units of all legs can be taken in one go
abbrev pub can_take_legs : Levels → QuoteSide → ℕ → List TradedLeg → Bool
can_take_legs b q u gs = distinct gs && all_ready b q u gs

-- the market after ratio times u contracts of a leg are taken
abbrev pub leg_taken : Levels → QuoteSide → ℕ → TradedLeg → Levels
leg_taken b q u g = taken_at b g.series (used_side g.side q) (g.ratio * u)

abbrev pub legs_taken : Levels → QuoteSide → ℕ → List TradedLeg → Levels
legs_taken b q u [] = b
legs_taken b q u (g ∷ gs) = legs_taken (leg_taken b q u g) q u gs

-- the two tests, said of each leg
abbrev pub Distinct : List TradedLeg → Type 0
Distinct [] = Unit {0}
Distinct (g ∷ gs) = AllByRecursion (λ x. x.series ≢ g.series) gs × Distinct gs

abbrev pub Ready : Levels → QuoteSide → ℕ → List TradedLeg → Type 0
Ready b q u gs = AllByRecursion (λ g. leg_ready b q u g ≡ true) gs
