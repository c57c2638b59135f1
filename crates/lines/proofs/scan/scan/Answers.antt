use Rattle.std.proofs.Common.{Some, sym, refl, ap, ◌∙◌}
use Rattle.lines.proofs.Accepts.{run_more, run_all, sound, fault_here, fault_short}
use Rattle.lines.proofs.Unique.{only_fault}
use Rattle.lines.proofs.scan.scan.Goals as goal

pub loop-at-init : goal.loop-at-init
loop-at-init c = refl

pub returns-in_default : goal.returns-in_default
returns-in_default c = only_fault _ _ (fault_here c.args.line.now c.loop-at.at _ c.loop-at-test.true c.loop-at.invariant (sym c.step.ensures ∙ c.in_default.is))

pub loop-at-preserved : goal.loop-at-preserved
loop-at-preserved c = run_more c.args.line.now c.loop-at.at _ _ c.loop-at-test.true c.loop-at.invariant (sym c.step.ensures ∙ c.in-Some.is)

pub returns-in-Done : goal.returns-in-Done
returns-in-Done c = sound c.args.line.now (run_all c.args.line.now c.loop-at.at _ c.loop-at-test.false c.loop-at.invariant ∙ ap Some c.in-Done.is)

pub returns-in_default-state : goal.returns-in_default-state
returns-in_default-state c = only_fault _ _ (fault_short c.args.line.now _ (run_all c.args.line.now c.loop-at.at _ c.loop-at-test.false c.loop-at.invariant) c.in_default-state.not-Done)
