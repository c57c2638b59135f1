use Rattle.std.proofs.Common.{◌≡◌, ap, ◌∙◌, rules}
use Rattle.strategy.specs.declared.price.Buffer.{Buffer}
use Rattle.days.specs.State.{zero_buffer, in_force, notice0}
use Rattle.gate_calls.proofs.Parts.{last_or_zeros}
use Rattle.gate_calls.proofs.gate.Gate.in_force.Goals as goal

all_zero : (b : Buffer) → (b.minimum ≡ 0) × ((b.absolute ≡ 0) × (b.percentage ≡ 0)) → b ≡ zero_buffer
all_zero b z = λ i. record { minimum = z.0 i; absolute = z.1.0 i; percentage = z.1.1 i }

pub returns : goal.returns
returns c =
    let r = c.unwrap_or_default.result in
    last_or_zeros notice0 _ c.copied.result c.as_slice.result.now r c.unwrap_or_default.ensures (search rules)
    (λ z. λ i. record { vertical = all_zero r.vertical z.0 i; butterfly = all_zero r.butterfly z.1.0 i; boxes = all_zero r.boxes z.1.1 i })
    ∙ ap in_force c.as_slice.ensures
