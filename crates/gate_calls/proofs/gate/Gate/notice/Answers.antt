use Rattle.std.proofs.Common.{refl}
use Rattle.days.specs.declared.call.Call.TheVariants as asked
use Rattle.days.specs.declared.reply.Reply.TheVariants as told
use Rattle.days.specs.Listings.{posting, posted_in}
use Rattle.gate_calls.specs.Model.{state}
use Rattle.gate_calls.proofs.Steps.{leads_on, quiet_step}
use Rattle.gate_calls.proofs.gate.Gate.notice.Goals as goal

pub returns : goal.returns
returns c =
    let s = state c.args.self.now in
    let t = state c.post.new.self in
    let x = c.args.terms in
    let done = c.post.ensures in
    record {
      answer = done.answer;
      after = done.after;
      law = λ m. leads_on (asked.Notice x) _ s m t m (quiet_step (posting s x) c.post.result told.Notice s t (posted_in s x) done.answer refl m done.after);
    }
