use Rattle.days.specs.declared.call.Call.TheVariants as asked
use Rattle.gate_calls.specs.Model.{state}
use Rattle.gate_calls.proofs.Steps.{leads_on}
use Rattle.gate_calls.proofs.gate.Gate.sweep.Goals as goal

pub returns : goal.returns
returns g c =
    let s = state c.args.self.now in
    let t = state c.fill_book.new.self in
    let m = g.M.Market.levels c.args.market.now in
    let m' = g.M.Market.levels c.fill_book.new.market in
    record { step = c.fill_book.ensures; law = leads_on asked.Sweep _ s m t m' c.fill_book.ensures }
