-- The number of each refusal of a market.
use Rattle.std.specs.Prelude.{ℕ}
use Rattle.market.specs.declared.quote.MarketFault.{MarketFault}
use Rattle.market.specs.declared.quote.MarketFault.TheVariants.{Range, Series, Crossed, Meets, NinthLevel, Take}

abbrev pub fault_number : MarketFault → ℕ
fault_number Range = 40
fault_number Series = 41
fault_number Crossed = 42
fault_number Meets = 43
fault_number NinthLevel = 44
fault_number Take = 45
