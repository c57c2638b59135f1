use Rattle.std.proofs.Common.{◌∷◌, ◌++◌, sym, ap, ◌∙◌, w32, SFits, rules}
use Rattle.std.proofs.lemmas.Int.{to_z-of_z}
use Rattle.commands.specs.Commands.{limit_parts}
use Rattle.commands.specs.Legs.{legs_parts}
use Rattle.commands.specs.Parts.{word, number}
use Rattle.commands.specs.Words.{side_name, channel_name}
use Rattle.commands.proofs.Sayings.{after_quantity}
use Rattle.commands.proofs.forms.read_order.Goals as goal

pub returns-in_err-next : goal.returns-in_err-next
returns-in_err-next c = rw c.from_residual.ensures (λ x s. c.in_err-next.ensures x.side _ s.parts)

pub returns-in_err-next-3 : goal.returns-in_err-next-3
returns-in_err-next-3 c = rw c.from_residual-in_err-next-3.ensures (λ x s.
    c.in_err-next-3.ensures x.channel (legs_parts s.all)
    (after_quantity _ _ _ _ _ _ _ c.in_ok-next.ensures c.in_ok-next_limit.ensures c.in_ok-next-2.ensures x s))

pub returns : goal.returns
returns c =
    let legs = c.in_ok-read_legs.ensures in
    let q = c.in_ok-next-2.field-0 in
    let f : SFits w32 q = search rules in
    let end = word (channel_name c.in_ok-next-3.field-0) ∷ legs_parts legs.all in
    record {
      all = legs.all;
      holds = legs.holds;
      parts =
          c.in_ok-next.ensures
          ∙ ap (λ ps. word (side_name c.in_ok-next.field-0) ∷ ps) (c.in_ok-next_limit.ensures
          ∙ ap (λ ps. limit_parts c.in_ok-next_limit.field-0 ++ ps) (c.in_ok-next-2.ensures
          ∙ ap (λ ps. number q ∷ ps) (c.in_ok-next-3.ensures ∙ ap (λ ps. word (channel_name c.in_ok-next-3.field-0) ∷ ps) legs.parts)
          ∙ ap (λ z. number z ∷ end) (sym (to_z-of_z w32 q f))));
    }
