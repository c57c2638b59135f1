use Rattle.std.proofs.Common.{sym, ◌∙◌}
use Rattle.gate_calls.specs.Model.{state}
use Rattle.gate_calls.proofs.Steps.{not_swept, sweep_done}
use Rattle.gate_calls.proofs.gate.Gate.fill_book.Goals as goal

pub returns-then-not-is_open : goal.returns-then-not-is_open
returns-then-not-is_open g c = not_swept (state c.args.self.now) (g.M.Market.levels c.args.market.now) (sym c.is_open.ensures ∙ c.if-not-is_open.true)

pub returns : goal.returns
returns g c =
    sweep_done (state c.args.self.now) (g.M.Market.levels c.args.market.now) c.fill_all.result _ _ (sym c.is_open.ensures ∙ c.if-not-is_open.false) c.fill_all.ensures
