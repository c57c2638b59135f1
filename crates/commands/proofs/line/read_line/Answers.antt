use Rattle.std.proofs.Common.{◌≡◌, ℕ, List, take, Result, ap, ◌∙◌, None, Err, MatchOption, rules}
use Rattle.std.specs.Bool.{then_some}
use Rattle.std.proofs.lemmas.Result.{err_from_is_err_and}
use Rattle.lines.specs.declared.fault.LineFault.{LineFault}
use Rattle.commands.specs.Feeds.{takes}
use Rattle.commands.specs.Parts.{rest}
use Rattle.commands.specs.Understood.{Answered, OnlyAnswer}
use Rattle.commands.specs.declared.command.Command.{Command}
use Rattle.commands.specs.declared.command.Feed.{Feed}
use Rattle.commands.proofs.Answering.{answered, one_answer, declines}
use Rattle.commands.proofs.line.read_line.Goals as goal

-- an answer that holds of every line that begins so
all : (feed : Feed) (line : List ℕ) (r : Result Command LineFault) → Answered feed line r → ((whole : List ℕ) → line ≡ take 513 whole → Answered feed whole r)
    → record { answer : Answered feed line r; only : OnlyAnswer feed line r; cut : (whole : List ℕ) → line ≡ take 513 whole → Answered feed whole r }
all feed line r h cut = record { answer = h; only = λ s. one_answer feed line r s h; cut = cut }

pub returns : goal.returns
unfolding rest
returns c =
    let opened = c.in_ok-from.ensures in
    let taken : MatchOption c.read_command.result (c.filter.result ≡ None) (λ x. c.filter.result ≡ then_some (takes c.args.feed x) x) = search rules in
    rw c.ok_or.ensures.value (all c.args.feed c.args.line.now _
    (answered c.args.feed c.args.line.now _ opened.answer _ _ c.read_command.ensures taken)
    (λ whole e. answered c.args.feed whole _ (opened.cut whole e) _ _ c.read_command.ensures taken))

pub returns-in_err-from : goal.returns-in_err-from
returns-in_err-from c =
    let opened = c.in_err-from.ensures in
    let fault = c.in_err-from.field-0.0 in
    let p = err_from_is_err_and c.from_residual.result c.from_residual.ensures.1 in
    rw (p.1 ∙ ap Err p.2)
    (all c.args.feed c.args.line.now (Err fault)
    (declines c.args.feed c.args.line.now fault opened.answer)
    (λ whole e. declines c.args.feed whole fault (opened.cut whole e)))
