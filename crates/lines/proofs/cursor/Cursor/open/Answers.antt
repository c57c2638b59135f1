use Rattle.std.proofs.Common.{◌≤◌, ◌-◌, length, take, subst, arith}
use Rattle.std.proofs.lemmas.Grind.{common_steps}
use Rattle.lines.specs.Cursors.{left, Opens}
use Rattle.lines.specs.Faults.{Read}
use Rattle.lines.specs.Forms.{Form}
use Rattle.lines.specs.Lexing.{left_from}
use Rattle.lines.proofs.Lexes.{form_left}
use Rattle.lines.proofs.Unique.{one_reading, refused_only, refused_cut, kept_long, kept_whole}
use Rattle.lines.proofs.cursor.Cursor.open.Goals as goal

pub returns-then-line-gt-LONGEST-clause-cut : goal.returns-then-line-gt-LONGEST-clause-cut
returns-then-line-gt-LONGEST-clause-cut c = λ whole e. kept_long c.args.line.now whole e c.if-line-gt-LONGEST.true

pub returns-in_err-map_err-clause-only : goal.returns-in_err-map_err-clause-only
returns-in_err-map_err-clause-only c =
    let told : Opens c.args.line.now c.from_residual.result = grind (arith, common_steps) in
    refused_only c.args.line.now c.from_residual.result c.from_residual.ensures.0 told

pub returns-in_err-map_err-clause-cut : goal.returns-in_err-map_err-clause-cut
returns-in_err-map_err-clause-cut c =
    let told : Opens c.args.line.now c.from_residual.result = grind (arith, common_steps) in
    refused_cut c.args.line.now c.from_residual.result c.from_residual.ensures.0 told (omega arith)

read : (c : goal.In_ok-map_err) → Read c.args.line.now (left_from (take (length c.args.line.now - 1) c.args.line.now) 1)
read c =
    let line = c.args.line.now in
    let form : Form line = grind (arith, common_steps) in
    record { short = omega arith; form = form; one = one_reading line; says = λ head items s. form_left line head items s }

pub returns-clause-answer : goal.returns-clause-answer
unfolding left
returns-clause-answer c = read c

pub returns-clause-cut : goal.returns-clause-cut
unfolding left
returns-clause-cut c =
    let line = c.args.line.now in
    let short : length line ≤ 512 = omega arith in
    λ whole e. subst (λ l. Read l (left_from (take (length line - 1) line) 1)) (kept_whole line whole e short) (read c)
