-- What a fill has, and when it is prevented.
use Rattle.std.specs.Prelude.{◌≡◌, ℕ, true, List, ℤ, Ok, Err, Result}
use Rattle.strategy.specs.declared.leg.Side.TheVariants.{Buy}
use Rattle.strategy.specs.declared.leg.Leg.{Leg}
use Rattle.strategy.specs.declared.price.Buffers.{Buffers}
use Rattle.strategy.specs.Prices.{below, lower_end, Exactly, ForBanded, OutOfBand}
use Rattle.market.specs.Levels.{Levels}
use Rattle.orders.specs.declared.fault.GateFault.{GateFault}
use Rattle.orders.specs.declared.fault.GateFault.TheVariants.{Prevented}
use Rattle.orders.specs.declared.turned.TurnedOrder.{TurnedOrder}
use Rattle.orders.specs.TurnedTerms.{terms_of}
use Rattle.fills.specs.declared.fill.Fill.{Fill}
use Rattle.fills.specs.Fillings.{filling_of}
use Rattle.fills.specs.FillingLaws.{IsFilling, ReachesNet}
use Rattle.fills.specs.Quotes.{fill_at}

-- the fill of an order, seen from outside, is what a fill is
abbrev pub Filled : Levels → TurnedOrder → ℕ → Fill → Type 0
Filled b o remaining f = IsFilling b (terms_of o) remaining (filling_of f)

-- every leg has its ratio, and the net price is within the limit
abbrev pub Reaches : Levels → TurnedOrder → ℤ → Type 0
Reaches b o net = ReachesNet b (terms_of o) net

-- A vertical, butterfly or box that reaches a net price within its limit is prevented exactly when that is out of the band of its closing
-- values, and else it fills.
abbrev pub FillLaw : Levels → TurnedOrder → ℕ → List Leg → Buffers → Result Fill GateFault → Type 0
FillLaw b o remaining turned buffers r =
    (net : ℤ) → Reaches b o net → ForBanded o.class buffers
    (λ f. Exactly (r ≡ Err Prevented) (OutOfBand o.side o.width turned net f)
    × Exactly (r ≡ Ok (fill_at b o remaining net)) (OutOfBand o.side o.width turned net f → ⊥))

-- a buy below the Minimum is not prevented
abbrev pub LowBuyFills : Levels → TurnedOrder → ℕ → Buffers → Result Fill GateFault → Type 0
LowBuyFills b o remaining buffers r =
    (net : ℤ) → Reaches b o net → o.side ≡ Buy → below net (lower_end o.class buffers) ≡ true → r ≡ Ok (fill_at b o remaining net)
