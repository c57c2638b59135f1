-- A session as seen from outside.
use Rattle.std.specs.Prelude.{ℕ, Option, Result}
use Rattle.answers.specs.declared.answer.Answer.{Answer}
use Rattle.commands.specs.declared.command.Command.{Command}
use Rattle.market.specs.declared.quote.MarketFault.{MarketFault}
use Rattle.market.specs.Levels.{Levels}
use Rattle.days.specs.State.{State}
use Rattle.gate_calls.specs.Model.{state}
use Rattle.session.specs.declared.session.Session.{Session}

pub record View : Type 0 where
  -- the state of the gate
  pub gate : State
  -- the levels of the market
  pub levels : Levels
  -- what a line of the market answers, none where it is no form of this market
  pub updated : Command → Option (Result Answer MarketFault)
  -- the levels that it leaves
  pub after : Command → Levels

-- what the contracts of a market with lines of its own say of it
abbrev pub Ways : Type 0 → Type 0
Ways V = record {
  levels : V → Levels;
  count : V → ℕ;
  updated : V → Command → Option (Result Answer MarketFault);
  after : V → Command → Levels;
}

abbrev pub view : {V : Type 0} → Ways V → Session V → View
view ways s = record { gate = state s.gate; levels = ways.levels s.venue; updated = ways.updated s.venue; after = ways.after s.venue }
