use Rattle.fills.proofs.Fillings.{filling_is_quoted}
use Rattle.days.specs.State.{in_force}
use Rattle.gate_calls.specs.Model.{state}
use Rattle.gate_calls.proofs.gate.Gate.quote.Goals as goal

pub returns : goal.returns
returns g c =
    let o = c.args.order.now in
    cc (filling_is_quoted (g.M.Market.levels c.args.market.now) o.terms o.remaining (in_force (state c.args.self.now).notices))
