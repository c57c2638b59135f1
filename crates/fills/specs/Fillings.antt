-- What an order gets from a market, of an order and a fill seen from outside.
use Rattle.std.specs.Prelude.{ℕ, not, List, map, ℤ, Some, None, Ok, Err, Option, Result}
use Rattle.strategy.specs.declared.price.Buffers.{Buffers}
use Rattle.strategy.specs.Few.{listed}
use Rattle.strategy.specs.Prices.{prevented_of}
use Rattle.market.specs.Levels.{Levels}
use Rattle.market.specs.Net.{net_side}
use Rattle.orders.specs.declared.fault.GateFault.{GateFault}
use Rattle.orders.specs.declared.fault.GateFault.TheVariants.{NoMarket, Limit, Prevented}
use Rattle.orders.specs.Checks.{check, check_at}
use Rattle.orders.specs.TurnedTerms.{Terms}
use Rattle.fills.specs.declared.fill.LegFill.{LegFill}
use Rattle.fills.specs.declared.fill.Fill.{Fill}
use Rattle.fills.specs.Fills.{taken_side, lacking, allowed, leg_fill, past_limit}

-- a fill: its units, the net price of one of them, and each leg at its price
pub record Filling : Type 0 where
  pub units : ℕ
  pub net : ℤ
  pub legs : List LegFill

abbrev pub filling_of : Fill → Filling
filling_of f = record { units = f.units; net = f.net; legs = listed f.legs }

-- the fill of an order at its net price
abbrev pub filling_at : Levels → Terms → ℕ → ℤ → Filling
filling_at b o remaining net = record {
  units = allowed b (taken_side o.side) remaining o.legs;
  net = net;
  legs = map (leg_fill b (taken_side o.side)) o.legs;
}

-- what comes of a net price; there is one wherever no leg lacks a market
abbrev pub priced : {A : Type 0} → Option ℤ → (ℤ → Result A GateFault) → Result A GateFault
priced None next = Err (NoMarket 0)
priced (Some net) next = next net

-- refused at a net price, or what it fills there
abbrev pub decided_at : {A : Type 0} → Terms → Buffers → (ℤ → A) → ℤ → Result A GateFault
decided_at o buffers fill net =
    check (not (past_limit o.side net o.limit)) Limit (
    check (not (prevented_of o.class o.width o.side net buffers)) Prevented (
    Ok (fill net)))

-- refused, or what the order fills at the net price that it takes
abbrev pub decided : {A : Type 0} → Levels → Terms → Buffers → (ℤ → A) → Result A GateFault
decided b o buffers fill =
    check_at (lacking b (taken_side o.side) o.legs) NoMarket (
    priced (net_side b o.legs (taken_side o.side)) (decided_at o buffers fill))

-- what an order of which some units remain would get
abbrev pub filling : Levels → Terms → ℕ → Buffers → Result Filling GateFault
filling b o remaining buffers = decided b o buffers (filling_at b o remaining)
