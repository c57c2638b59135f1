use Rattle.std.proofs.Common.{[], IfOk, subst}
use Rattle.input.specs.Buffers.{line, waiting}
use Rattle.input.specs.Sources.{Reads}
use Rattle.input.proofs.Stands.{stands_self, gets_line}
use Rattle.service.proofs.answerer.next_line.Goals as goal

pub returns-then-take_line : goal.returns-then-take_line
returns-then-take_line g c = gets_line _ [] _ _ _ (stands_self (waiting c.args.source.now.held)) c.if-take_line.ensures.takes

-- nothing was taken
pub returns : goal.returns
returns g c =
    let last = c.read_line.new.self.held in
    subst (λ b. IfOk c.read_line.result (λ some. Reads some (waiting b) (line last) (waiting last)))
    c.if-take_line.ensures.takes.1
    c.read_line.ensures
