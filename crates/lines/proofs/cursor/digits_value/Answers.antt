use Rattle.std.proofs.Common.{◌≡◌, subst, ◌<◌, ◌^◌, sym, ◌∙◌, rules, arith}
use Rattle.std.specs.List.{fold}
use Rattle.lines.specs.Lexing.{with_digit, magnitude}
use Rattle.lines.proofs.Lexes.{magnitude_fold, magnitude_small}
use Rattle.lines.proofs.cursor.digits_value.Goals as goal

value : (c : goal.After-fold) → c.fold.result ≡ magnitude 0 c.args.digits.now
value c = let e : c.fold.result ≡ fold with_digit 0 c.args.digits.now = search rules in e ∙ magnitude_fold 0 c.args.digits.now

pub returns-clause-value : goal.returns-clause-value
returns-clause-value c = value c

pub returns-clause-small : goal.returns-clause-small
returns-clause-small c = subst (λ n. n < 2 ^ 30) (sym (value c)) (magnitude_small 0 c.args.digits.now (omega arith))
