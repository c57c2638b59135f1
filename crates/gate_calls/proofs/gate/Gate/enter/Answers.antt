use Rattle.std.proofs.Common.{refl}
use Rattle.days.specs.declared.call.Call.TheVariants as asked
use Rattle.gate_calls.specs.Model.{state}
use Rattle.gate_calls.proofs.Steps.{leads_on, none_since, enter_tape}
use Rattle.gate_calls.proofs.gate.Gate.enter.Goals as goal

pub returns : goal.returns
returns c =
    let s = state c.args.self.now in
    let t = state c.take_in.new.self in
    let done = c.take_in.ensures in
    record { step = done; law = λ m. leads_on (asked.Enter c.args.terms) _ s m t m ((none_since s t (enter_tape s c.args.terms _ t done), refl), done) }
