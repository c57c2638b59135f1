use Rattle.std.proofs.Common.{[], sym, ◌∙◌, append-nil}
use Rattle.commands.proofs.fields.last.Goals as goal

pub returns-in_err-value : goal.returns-in_err-value
returns-in_err-value g c = rw c.from_residual.ensures (λ x e. c.in_err-value.ensures x [] (e ∙ sym (append-nil _)))
