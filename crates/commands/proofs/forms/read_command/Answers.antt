use Rattle.std.proofs.Common.{◌∷◌, ap, ◌∙◌}
use Rattle.commands.specs.Parts.{word, rest}
use Rattle.commands.specs.Words.{head_name}
use Rattle.commands.proofs.Sayings.{headless, no_enter}
use Rattle.commands.proofs.forms.read_command.Goals as goal

pub returns-in_err-next : goal.returns-in_err-next
returns-in_err-next c = rw c.from_residual.ensures (headless (rest c.args.from.now) c.in_err-next.ensures)

pub returns-in_err-read_order-in-Enter : goal.returns-in_err-read_order-in-Enter
returns-in_err-read_order-in-Enter c = rw c.from_residual-in_err-read_order-in-Enter.ensures
    (no_enter (rest c.args.from.now) (rest c.next.new.from)
    (c.in_ok-next.ensures ∙ ap (λ h. word (head_name h) ∷ rest c.next.new.from) c.in-Enter.is)
    c.in_err-read_order-in-Enter.ensures)
