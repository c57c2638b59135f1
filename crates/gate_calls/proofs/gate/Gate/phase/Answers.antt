use Rattle.days.specs.declared.call.Call.TheVariants as asked
use Rattle.days.specs.declared.reply.Reply.TheVariants as told
use Rattle.days.specs.Cancels.{ringing, rung_in}
use Rattle.gate_calls.specs.Model.{state}
use Rattle.gate_calls.proofs.Steps.{leads_on, quiet_step, bell_tape}
use Rattle.gate_calls.proofs.gate.Gate.phase.Goals as goal

pub returns : goal.returns
returns c =
    let s = state c.args.self.now in
    let t = state c.ring.new.self in
    let b = c.args.bell in
    let done = c.ring.ensures in
    record {
      answer = done.answer;
      after = done.after;
      law = λ m. leads_on (asked.Phase b) _ s m t m (quiet_step (ringing s b) c.ring.result (told.Phase b) s t (rung_in s b) done.answer (bell_tape s b) m done.after);
    }
