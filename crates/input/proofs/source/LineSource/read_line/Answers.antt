use Rattle.std.proofs.Common.{◌≡◌, [], ◌++◌, take, sym, ap, ◌∙◌, subst, append_assoc}
use Rattle.input.specs.Buffers.{waiting}
use Rattle.input.specs.Sources.{Grows}
use Rattle.input.proofs.Stands.{Stands, stands_self, stands_more, gets_line, gets_rest}
use Rattle.input.proofs.source.LineSource.read_line.Goals as goal

pub loop-init : goal.loop-init
loop-init g c = ([], stands_self (waiting c.args.self.now.held))

pub returns-then-take_line : goal.returns-then-take_line
returns-then-take_line g c = gets_line _ c.loop.invariant.0 _ _ _ c.loop.invariant.1 c.if-take_line.ensures

pub returns-then-not-branch : goal.returns-then-not-branch
returns-then-not-branch g c =
    let none = c.if-take_line.ensures in
    let held : waiting c.receive.new.self.held ≡ take 513 (waiting c.loop.self.held) = subst (λ p. Grows p (waiting c.take_line.new.self) (waiting c.receive.new.self.held)) c.if-not-branch.true c.in_ok-receive.ensures ∙ ap (λ b. take 513 (waiting b)) none.1 in
    let told = c.take_rest.ensures in
    gets_rest _ c.loop.invariant.0 _ _ _ _ c.take_rest.result none.0 c.loop.invariant.1 held told.some told.line told.waiting

pub loop-preserved : goal.loop-preserved
loop-preserved g c =
    let none = c.if-take_line.ensures in
    let before = waiting c.args.self.now.held in
    let more = c.loop.invariant.0 in
    let got = subst (λ p. Grows p (waiting c.take_line.new.self) (waiting c.receive.new.self.held)) c.if-not-branch.false c.in_ok-receive.ensures in
    let held : waiting c.receive.new.self.held ≡ take 513 (waiting c.loop.self.held) ++ got.0 = got.1 ∙ ap (λ b. take 513 (waiting b) ++ got.0) none.1 in
    let stands = stands_more (waiting c.loop.self.held) (before ++ more) got.0 none.0 c.loop.invariant.1 in
    (more ++ got.0, subst (λ l. Stands l (before ++ (more ++ got.0))) (sym held) (subst (Stands _) (append_assoc before more got.0) stands))
