use Rattle.std.proofs.Common.{◌≡◌, Some, Ok, sym, ap, ◌∙◌, subst, w32, arith}
use mir.ValLaws.{to_z-of_z}
use Rattle.std.proofs.lemmas.Result.{err_from_is_err_and}
use Rattle.orders.specs.Checks.{map_ok}
use Rattle.fills.specs.Fillings.{filling_of}
use Rattle.days.specs.declared.reply.Execution.{Execution}
use Rattle.days.specs.declared.reply.Reply.TheVariants as told
use Rattle.days.specs.State.{lookup}
use Rattle.days.specs.History.{since, WorkStep}
use Rattle.gate_calls.specs.Model.{state}
use Rattle.gate_calls.proofs.Parts.{missing}
use Rattle.gate_calls.proofs.Steps.{not_open, not_resting, tape_full_lem, not_filled, work_done}
use Rattle.gate_calls.proofs.gate.Gate.fill_one.Goals as goal

pub returns-then-not-is_open : goal.returns-then-not-is_open
returns-then-not-is_open g c = not_open (state c.args.self.now) (g.M.Market.levels c.args.market.now) c.args.number (sym c.is_open.ensures ∙ c.if-not-is_open.true)

pub returns-in_err-order : goal.returns-in_err-order
returns-in_err-order g c =
    let s = state c.args.self.now in
    let p = err_from_is_err_and c.from_residual.result c.from_residual.ensures.1 in
    let none = missing c.resting.result _ _ (sym c.ok_or.ensures.value ∙ c.in_err-order.was) in
    rw (p.1, p.2, none.1)
    (not_resting s (g.M.Market.levels c.args.market.now) c.args.number (sym c.is_open.ensures ∙ c.if-not-is_open.false) (rw none.0 at c.resting.ensures.is ∙ ap (lookup s.order) (to_z-of_z w32 c.args.number c.ranges.number)))

pub returns-then-is_tape_full : goal.returns-then-is_tape_full
returns-then-is_tape_full g c =
    let s = state c.args.self.now in
    let o = c.in_ok-order.order in
    let found : c.resting.result ≡ Some o = grind arith in
    tape_full_lem s (g.M.Market.levels c.args.market.now) c.args.number (sym c.is_open.ensures ∙ c.if-not-is_open.false) o (rw found at c.resting.ensures.is ∙ ap (lookup s.order) (to_z-of_z w32 c.args.number c.ranges.number))
    (sym c.is_tape_full.ensures.value ∙ c.if-is_tape_full.true)

pub returns-in_err-fill : goal.returns-in_err-fill
returns-in_err-fill g c =
    let s = state c.args.self.now in
    let o = c.in_ok-order.order in
    let found : c.resting.result ≡ Some o = grind arith in
    let p = err_from_is_err_and c.from_residual-in_err-fill.result c.from_residual-in_err-fill.ensures.1 in
    rw (p.1, p.2)
    (not_filled s (g.M.Market.levels c.args.market.now) c.args.number (sym c.is_open.ensures ∙ c.if-not-is_open.false) o (rw found at c.resting.ensures.is ∙ ap (lookup s.order) (to_z-of_z w32 c.args.number c.ranges.number))
    (sym c.is_tape_full.ensures.value ∙ c.if-is_tape_full.false) _ (sym c.quote.ensures ∙ ap (map_ok filling_of) c.in_err-fill.was))

pub settle-requires : goal.settle-requires
settle-requires g c =
    let found : c.resting.result ≡ Some c.in_ok-order.order = grind arith in
    record {
      held = sym (rw found at c.resting.ensures.is ∙ ap (lookup (state c.args.self.now).order) (rw found at c.resting.ensures.named));
      fits = sym c.in_ok-fill.ensures;
      room = sym c.is_tape_full.ensures.value ∙ c.if-is_tape_full.false;
    }

pub returns : goal.returns
returns g c =
    let s = state c.args.self.now in
    let m = g.M.Market.levels c.args.market.now in
    let t = state c.settle.new.self in
    let m' = g.M.Market.levels c.settle.new.market in
    let o = c.in_ok-order.order in
    let found : c.resting.result ≡ Some o = grind arith in
    subst (λ (x : Execution). WorkStep s m c.args.number (Ok (told.Work x)) (since s t) t m') (sym c.into.ensures)
    (work_done s m c.args.number (sym c.is_open.ensures ∙ c.if-not-is_open.false) o (rw found at c.resting.ensures.is ∙ ap (lookup s.order) (to_z-of_z w32 c.args.number c.ranges.number))
    (sym c.is_tape_full.ensures.value ∙ c.if-is_tape_full.false) c.in_ok-fill.fill t m' (sym c.in_ok-fill.ensures) c.settle.ensures)
