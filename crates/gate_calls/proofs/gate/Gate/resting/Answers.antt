use Rattle.std.proofs.Common.{ℤ, sym, ap, ◌∙◌, subst, w32}
use mir.ValLaws.{to_z-of_z}
use Rattle.std.specs.Int.{FitsUnsignedBits}
use Rattle.book.specs.Resting.{rest}
use Rattle.gate_calls.proofs.Parts.{none_named, no_value}
use Rattle.gate_calls.proofs.gate.Gate.resting.Goals as goal

pub returns-in_err-number-clause-is : goal.returns-in_err-number-clause-is
returns-in_err-number-clause-is c =
    let out = no_value c.try_from.result _ _ (sym c.ok.ensures.value ∙ c.in_err-number.was) c.try_from.ensures in
    ap rest c.from_residual.ensures
    ∙ sym (none_named c.args.self.now.book c.args.number (subst (λ (z : ℤ). FitsUnsignedBits 16 z → ⊥) (to_z-of_z w32 c.args.number c.ranges.number) out))
