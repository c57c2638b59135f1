use Rattle.std.proofs.Common.{[], ◌∷◌, refl, subst}
use Rattle.input.specs.Buffers.{line, waiting}
use Rattle.input.specs.Sources.{Reads}
use Rattle.service.specs.Served.{Came}
use Rattle.service.proofs.answerer.serve.Goals as goal

pub loop-init : goal.loop-init
loop-init g c = ([], c.new-source.ensures.waiting, refl)

pub loop-preserved : goal.loop-preserved
loop-preserved g c =
    let so = c.loop.invariant in
    let before = c.loop.source.held in
    let after = c.next_line.new.source.held in
    let got = subst (λ some. Reads some (waiting before) (line after) (waiting after)) c.if-not-branch.false c.in_ok-next_line.ensures in
    let done = subst (λ bytes. g.T.Answerer.becomes c.loop.answerer bytes c.answer.new.self) c.line.ensures c.answer.ensures in
    (line after ∷ so.0, (waiting before, so.1, got), (c.loop.answerer, so.2, done))

pub returns-then-not-branch : goal.returns-then-not-branch
returns-then-not-branch g c =
    let so = c.loop.invariant in
    let before = c.loop.source.held in
    let after = c.next_line.new.source.held in
    let ended = subst (λ some. Reads some (waiting before) (line after) (waiting after)) c.if-not-branch.true c.in_ok-next_line.ensures in
    record { lines = so.0; came = subst (Came [] so.0) ended.0 so.1; through = so.2 }
