use Rattle.std.proofs.Common.{◌≡◌, sym, ap, ◌∙◌, w64, to_z, of_z, rules}
use Rattle.std.specs.Fmt.{signed_decimal}
use Rattle.lines.specs.Forms.{atom_text}
use Rattle.line_writer.specs.Lines.{atom}
use Rattle.line_writer.proofs.Adding.{spaced}
use Rattle.line_writer.proofs.line.Line.field.Goals as goal

pub returns-in-Word : goal.returns-in-Word
returns-in-Word c = spaced (c.as_bytes.ensures.value ∙ ap (λ f. atom_text (atom f)) (sym c.in-Word.is)) c.byte.ensures c.text.ensures

pub returns-in-Number : goal.returns-in-Number
returns-in-Number c =
    let n = c.in-Number.n in
    let same : to_z w64 (of_z w64 n) ≡ n = search rules in
    spaced (c.as_bytes-in-Number.ensures.value ∙ c.format.ensures.text ∙ ap signed_decimal same ∙ ap (λ f. atom_text (atom f)) (sym c.in-Number.is)) c.byte.ensures c.text-in-Number.ensures

pub returns-in-Count : goal.returns-in-Count
returns-in-Count c =
    spaced (ap (λ f. atom_text (atom f)) (sym c.in-Count.is)) c.byte.ensures c.count.ensures
