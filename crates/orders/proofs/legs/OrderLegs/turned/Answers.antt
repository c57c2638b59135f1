use Rattle.std.proofs.Common.{ap, ◌∙◌, rules}
use Rattle.strategy.specs.Few.{listed}
use Rattle.orders.specs.SoundLegs.{sound, turned_leg}
use Rattle.orders.proofs.Soundness.{turned_sound}
use Rattle.orders.proofs.legs.OrderLegs.turned.Goals as goal

pub invariant_of-result : goal.invariant_of-result
invariant_of-result c =
    record { sound = ap sound (c.map.ensures.listed (turned_leg c.args.turned) (λ l r p. search rules)) ∙ turned_sound c.args.turned (listed c.args.self.legs) c.args.self.sound }
