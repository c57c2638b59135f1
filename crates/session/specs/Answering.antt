-- What is done with a line, and what is answered.
use Rattle.std.specs.Prelude.{◌≡◌, ℕ, true, List, take, ℤ, Some, None, Ok, Err, Option, Result, MatchResult}
use Rattle.lines.specs.declared.fault.LineFault.{LineFault}
use Rattle.lines.specs.declared.fault.LineFault.TheVariants.{Unknown}
use Rattle.line_writer.specs.Areas.{Written}
use Rattle.answers.specs.declared.answer.Answer.{Answer}
use Rattle.answers.specs.declared.answer.Answer.TheVariants as answer
use Rattle.answers.specs.Said.{said, refusal}
use Rattle.commands.specs.declared.command.Command.{Command}
use Rattle.commands.specs.declared.command.Command.TheVariants.{Series, Notice, Quote, Level, Enter, Phase, Cancel, Work, Sweep, Net}
use Rattle.commands.specs.Understood.{Answered}
use Rattle.commands.specs.declared.command.Feed.{Feed}
use Rattle.market.specs.declared.quote.TwoSided.{TwoSided}
use Rattle.market.specs.declared.quote.MarketFault.{MarketFault}
use Rattle.orders.specs.declared.fault.GateFault.{GateFault}
use Rattle.orders.specs.declared.fault.GateFault.TheVariants as gate
use Rattle.orders.specs.declared.records.LegList.{LegList}
use Rattle.orders.specs.Checks.{map_ok}
use Rattle.days.specs.declared.call.Call.{Call}
use Rattle.days.specs.declared.call.Call.TheVariants as call
use Rattle.days.specs.declared.reply.Reply.{Reply}
use Rattle.days.specs.declared.reply.Reply.TheVariants as reply
use Rattle.days.specs.Verdicts.{Verdict}
use Rattle.days.specs.Laws.{LeadsOn}
use Rattle.gate_calls.specs.Promises.{netting}
use Rattle.session.specs.declared.fault.SessionFault.{SessionFault}
use Rattle.session.specs.Refusals.{gate_refusal, fault_answer}
use Rattle.session.specs.Views.{View}

-- Answers

abbrev pub answer_of : Reply → Answer
answer_of (reply.Series n) = answer.Series n
answer_of (reply.Notice n) = answer.Notice n
answer_of (reply.Phase bell units) = answer.Phase bell units
answer_of (reply.Order x) = answer.Order x.number x.class
answer_of (reply.Cancel units) = answer.Cancel units
answer_of (reply.Work x) = answer.Work x.units x.net
answer_of (reply.Sweep x) = answer.Sweep x.lines x.units x.outcome

-- a line of another market is none that is known
abbrev pub market_answer : Option (Result Answer MarketFault) → Answer
market_answer None = refusal Unknown
market_answer (Some (Ok a)) = a
market_answer (Some (Err f)) = gate_refusal (gate.Market f)

abbrev pub net_answer : Result (TwoSided ℤ) GateFault → Answer
net_answer (Ok net) = answer.Net net.bid net.offer
net_answer (Err f) = gate_refusal f

-- a refusal is answered like anything else
abbrev pub told_by : Result Answer GateFault → Answer
told_by (Ok a) = a
told_by (Err f) = gate_refusal f

abbrev pub told : Result Answer SessionFault → Answer
told (Ok a) = a
told (Err f) = fault_answer f

-- What is done, from the session x to y

abbrev pub Unchanged : View → View → Type 0
Unchanged x y = (y.gate ≡ x.gate) × (y.levels ≡ x.levels)

-- one of the seven calls, over the session's market, with the law of the day
abbrev pub Makes : Call → View → Answer → View → Type 0
Makes c x a y = (r : Verdict) × LeadsOn c r x.gate x.levels y.gate y.levels × (a ≡ told_by (map_ok answer_of r))

-- a line of the market leaves the gate as it was
abbrev pub Updates : Command → View → Answer → View → Type 0
Updates c x a y = (y.gate ≡ x.gate) × (y.levels ≡ x.after c) × (a ≡ market_answer (x.updated c))

-- net changes nothing
abbrev pub Nets : LegList → View → Answer → View → Type 0
Nets legs x a y = Unchanged x y × (a ≡ net_answer (netting x.gate legs x.levels))

abbrev pub Obeys : Command → View → Answer → View → Type 0
Obeys (Series t) x a y = Makes (call.Series t) x a y
Obeys (Notice t) x a y = Makes (call.Notice t) x a y
Obeys (Quote t) x a y = Updates (Quote t) x a y
Obeys (Level t) x a y = Updates (Level t) x a y
Obeys (Enter t) x a y = Makes (call.Enter t) x a y
Obeys (Phase bell) x a y = Makes (call.Phase bell) x a y
Obeys (Cancel n) x a y = Makes (call.Cancel n) x a y
Obeys (Work n) x a y = Makes (call.Work n) x a y
Obeys Sweep x a y = Makes call.Sweep x a y
Obeys (Net legs) x a y = Nets legs x a y

-- a session reads the lines of every market; that of another market is refused when it is obeyed
abbrev pub every : Feed
every = record { quotes = true; levels = true }

-- The line is a command, which is obeyed, or it is refused, and nothing is changed.
pub record Does (x : View) (line : List ℕ) (a : Answer) (y : View) : Type 0 where
  pub read : Result Command LineFault
  pub answered : Answered every line read
  -- of a longer line the first 513 bytes are enough
  pub cut : (whole : List ℕ) → line ≡ take 513 whole → Answered every whole read
  pub done : MatchResult read (λ c. Obeys c x a y) (λ f. Unchanged x y × (a ≡ refusal f))

-- the bytes of the answer stand in the area, and n is their number
pub record Answers (x : View) (line before after : List ℕ) (n : ℕ) (y : View) : Type 0 where
  pub answer : Answer
  pub written : Written (said answer) before after n
  pub does : Does x line answer y
