use Rattle.std.proofs.Common.{ℤ, subst, w32}
use mir.ValLaws.{to_z-of_z}
use Rattle.days.specs.declared.call.Call.TheVariants as asked
use Rattle.days.specs.declared.reply.Reply.TheVariants as told
use Rattle.orders.specs.Checks.{map_ok}
use Rattle.days.specs.History.{since, WorkStep}
use Rattle.gate_calls.specs.Model.{state}
use Rattle.gate_calls.proofs.Steps.{leads_on}
use Rattle.gate_calls.proofs.gate.Gate.work.Goals as goal

pub returns : goal.returns
returns g c =
    let s = state c.args.self.now in
    let t = state c.fill_one.new.self in
    let m = g.M.Market.levels c.args.market.now in
    let m' = g.M.Market.levels c.fill_one.new.market in
    let z = c.args.number in
    let done = subst (λ (n : ℤ). WorkStep s m n (map_ok told.Work c.fill_one.result) (since s t) t m') (to_z-of_z w32 z c.ranges.number) c.fill_one.ensures in
    record { step = done; law = leads_on (asked.Work z) _ s m t m' done }
