use Rattle.std.proofs.Common.{min, length, sym, ap, ◌∙◌, arith}
use Rattle.std.proofs.lemmas.List.{length_push}
use Rattle.std.proofs.lemmas.Bool.{leb-false}
use Rattle.days.specs.State.{State}
use Rattle.gate_calls.specs.Model.{state}
use Rattle.gate_calls.specs.Promises.{line_with}
use Rattle.gate_calls.proofs.Sweep.{none_yet, one_more, few, is_candidate}
use Rattle.gate_calls.proofs.gate.Gate.fill_all.Goals as goal

pub loop-first-init : goal.loop-first-init
loop-first-init g c = none_yet (state c.args.self.now) (g.M.Market.levels c.args.market.now)

pub returns-then-is_tape_full : goal.returns-then-is_tape_full
returns-then-is_tape_full g c =
    let so = c.loop-first.invariant in
    let t = state c.loop-first.self in
    let m = g.M.Market.levels c.loop-first.market in
    let first = c.in-Some.ensures in
    let o = c.in-Some.first.order in
    let f = c.in-Some.first.fill in
    record {
      fills = so.fills;
      tape = so.tape;
      lines = so.count;
      units = so.sum;
      sweeps = so.sweeps;
      ended = (sym c.is_tape_full.ensures.value ∙ c.if-is_tape_full.true, (o.number, line_with t o f, is_candidate t m o f first.held first.fits));
    }

pub settle-requires : goal.settle-requires
settle-requires g c =
    let first = c.in-Some.ensures in
    record { held = first.held; fits = first.fits; room = sym c.is_tape_full.ensures.value ∙ c.if-is_tape_full.false }

pub overflow_add-lines : goal.overflow_add-lines
overflow_add-lines g c =
    let less = few _ _ _ _ _ _ c.loop-first.invariant (sym c.is_tape_full.ensures.value ∙ c.if-is_tape_full.false) in
    omega (arith, less)

pub overflow_add-units : goal.overflow_add-units
overflow_add-units g c =
    let less = few _ _ _ _ _ _ c.loop-first.invariant (sym c.is_tape_full.ensures.value ∙ c.if-is_tape_full.false) in
    omega (arith, less, c.loop-first.invariant.small, c.from-units.ensures)

pub loop-first-smaller : goal.loop-first-smaller
loop-first-smaller g c =
    let t = state c.loop-first.self in
    let line = line_with t c.in-Some.first.order c.in-Some.first.fill in
    let free = leb-false (min 4096 t.tape_room) (length t.tape) (sym c.is_tape_full.ensures.value ∙ c.if-is_tape_full.false) in
    let tape = ap (λ (x : State). length x.tape) c.settle.ensures.0 ∙ length_push t.tape line in
    let room = ap (λ (x : State). x.tape_room) c.settle.ensures.0 in
    omega (arith, free, tape, room)

pub loop-first-preserved : goal.loop-first-preserved
loop-first-preserved g c =
    one_more _ _ _ _ _ _ c.loop-first.invariant c.in-Some.first.order c.in-Some.first.fill _ _ c.from-units.result c.in-Some.ensures (sym c.is_tape_full.ensures.value ∙ c.if-is_tape_full.false) c.settle.ensures c.from-units.ensures (omega arith)

pub returns : goal.returns
returns g c =
    let so = c.loop-first.invariant in
    record { fills = so.fills; tape = so.tape; lines = so.count; units = so.sum; sweeps = so.sweeps; ended = c.in_default.ensures }
