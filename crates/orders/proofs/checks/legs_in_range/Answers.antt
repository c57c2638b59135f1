use Rattle.std.proofs.Common.{Ok, ◌∙◌, rules}
use Rattle.orders.specs.declared.fault.OrderFault.TheVariants.{Range}
use Rattle.orders.specs.Checks.{check}
use Rattle.orders.specs.Ranges.{leg_in_range, traded_leg}
use Rattle.strategy.specs.Few.{listed}
use Rattle.orders.proofs.LegRanges.{each_in_range}
use Rattle.orders.proofs.checks.legs_in_range.Goals as goal

pub returns : goal.returns
returns c = c.try_map.ensures (λ k l. check (leg_in_range l) (Range k) (Ok (traded_leg l))) (λ n l r p. search rules) ∙ each_in_range (listed c.args.legs)
