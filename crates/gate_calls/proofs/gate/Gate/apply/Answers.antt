use Rattle.std.proofs.Common.{sym, ap, ◌∙◌, w32, SFits, rules}
use mir.ValLaws.{to_z-of_z}
use Rattle.days.specs.declared.call.Call.TheVariants as asked
use Rattle.gate_calls.proofs.Steps.{as_asked}
use Rattle.gate_calls.proofs.gate.Gate.apply.Goals as goal

pub returns-in-Series : goal.returns-in-Series
returns-in-Series g c = as_asked (c.series.ensures.law _) c.in-Series.is (search rules)

pub returns-in-Notice : goal.returns-in-Notice
returns-in-Notice g c = as_asked (c.notice.ensures.law _) c.in-Notice.is (search rules)

pub returns-in-Phase : goal.returns-in-Phase
returns-in-Phase g c = as_asked (c.phase.ensures.law _) c.in-Phase.is (search rules)

pub returns-in-Enter : goal.returns-in-Enter
returns-in-Enter g c = as_asked (c.enter.ensures.law _) c.in-Enter.is (search rules)

pub returns-in-Cancel : goal.returns-in-Cancel
returns-in-Cancel g c =
    let fits : SFits w32 c.in-Cancel.number = search rules in
    as_asked (c.cancel.ensures.law _) (c.in-Cancel.is ∙ ap asked.Cancel (sym (to_z-of_z w32 c.in-Cancel.number fits))) (search rules)
