use Rattle.std.proofs.Common.{[], map, ◌∙◌}
use Rattle.std.proofs.lemmas.List.{take_all, length-map}
use Rattle.line_writer.specs.Lines.{atom}
use Rattle.answers.proofs.Lengths.{short_form}
use Rattle.answers.proofs.answer.write.form.Goals as goal

pub returns : goal.returns
returns c =
    let short = short_form c.args.head.now (map atom c.args.fields.now) c.requires.head (rw (length-map c.args.fields.now atom) c.requires.few) c.requires.short in
    record { text = c.put.ensures [] c.requires.empty ∙ take_all 160 _ short; short = short }
