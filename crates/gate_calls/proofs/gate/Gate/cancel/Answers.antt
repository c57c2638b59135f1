use Rattle.std.proofs.Common.{ℤ, refl, ap, ◌∙◌, subst, w32}
use mir.ValLaws.{to_z-of_z}
use Rattle.days.specs.declared.call.Call.TheVariants as asked
use Rattle.days.specs.declared.reply.Reply.TheVariants as told
use Rattle.days.specs.Cancels.{cancelling, cancelled_in}
use Rattle.gate_calls.specs.Model.{state}
use Rattle.gate_calls.specs.Promises.{Changes}
use Rattle.gate_calls.proofs.Steps.{leads_on, quiet_step}
use Rattle.gate_calls.proofs.gate.Gate.cancel.Goals as goal

pub returns : goal.returns
returns c =
    let s = state c.args.self.now in
    let t = state c.withdraw.new.self in
    let z = c.args.number in
    let same = to_z-of_z w32 z c.ranges.number in
    let r = c.withdraw.result in
    let is = c.withdraw.ensures.answer ∙ ap (cancelling s) same in
    let changes = subst (λ (n : ℤ). Changes r s t (cancelled_in s n)) same c.withdraw.ensures.after in
    record {
      answer = is;
      after = changes;
      law = λ m. leads_on (asked.Cancel z) _ s m t m (quiet_step (cancelling s z) r told.Cancel s t (cancelled_in s z) is refl m changes);
    }
