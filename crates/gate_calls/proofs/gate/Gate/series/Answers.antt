use Rattle.std.proofs.Common.{refl}
use Rattle.days.specs.declared.call.Call.TheVariants as asked
use Rattle.days.specs.declared.reply.Reply.TheVariants as told
use Rattle.days.specs.Listings.{listing, listed_in}
use Rattle.gate_calls.specs.Model.{state}
use Rattle.gate_calls.proofs.Steps.{leads_on, quiet_step}
use Rattle.gate_calls.proofs.gate.Gate.series.Goals as goal

pub returns : goal.returns
returns c =
    let s = state c.args.self.now in
    let t = state c.list.new.self in
    let x = c.args.terms in
    let done = c.list.ensures in
    record {
      answer = done.answer;
      after = done.after;
      law = λ m. leads_on (asked.Series x) _ s m t m (quiet_step (listing s x) c.list.result told.Series s t (listed_in s x) done.answer refl m done.after);
    }
