use Rattle.std.proofs.Common.{◌≡◌, ◌+◌, ◌-◌, min, ◌++◌, length, take, sym, ap, ◌∙◌, arith, length-take}
use Rattle.std.proofs.lemmas.Slice.{take-put_mid}
use Rattle.line_writer.specs.Lines.{held}
use Rattle.line_writer.proofs.Adding.{cut, cut_again}
use Rattle.line_writer.proofs.line.Line.text.Goals as goal

pub returns : goal.returns
returns c text is =
    let l = c.args.self.now in
    let more = c.args.more.now in
    let n = c.min-n.result in
    let after = c.copy_from_slice.ensures.after in
    let long : length (held l) ≡ l.len = simp length-take (omega arith) in
    take-put_mid l.len _ l.bytes c.copy_from_slice.new.self (l.len + n) (omega (arith, ap length after, length-take n more)) (omega arith)
    ∙ ap (λ xs. held l ++ xs) after
    ∙ cut (held l) more n (omega arith) (c.min-n.ensures ∙ ap (λ k. min (length more) (160 - k)) (sym long))
    ∙ ap (λ xs. take 160 (xs ++ more)) is
    ∙ cut_again 160 text more
