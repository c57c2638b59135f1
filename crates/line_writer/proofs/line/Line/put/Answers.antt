use Rattle.std.proofs.Common.{◌∷◌, ◌++◌, map, take, sym, subst}
use Rattle.std.proofs.lemmas.List.{map_more, take_all}
use Rattle.lines.specs.Forms.{spaced_atoms}
use Rattle.line_writer.specs.Lines.{held, Adds, atom}
use Rattle.line_writer.proofs.Adding.{begun, lengthened, ended, same_text}
use Rattle.line_writer.proofs.line.Line.put.Goals as goal

pub loop-field-init : goal.loop-field-init
loop-field-init c = begun c.args.head.now c.byte.ensures (same_text c.as_bytes.ensures.value c.text.ensures)

pub loop-field-preserved : goal.loop-field-preserved
loop-field-preserved c =
    let head = c.args.head.now in
    let fields = c.args.fields.now in
    let i = c.loop-field.field-index in
    let more = map_more atom fields i _ c.loop-field-test.true in
    subst (λ fs. Adds (held c.args.self.now) (held c.field.new.self) (40 ∷ (head ++ spaced_atoms fs))) (sym more) (lengthened head (map atom (take i fields)) _ c.loop-field.invariant c.field.ensures)

pub returns : goal.returns
returns c =
    let all = take_all c.loop-field.field-index c.args.fields.now c.loop-field-test.false in
    ended c.args.head.now (map atom c.args.fields.now) (subst (λ fs. Adds (held c.args.self.now) (held c.loop-field.self) (40 ∷ (c.args.head.now ++ spaced_atoms (map atom fs)))) all c.loop-field.invariant) c.byte-2.ensures
