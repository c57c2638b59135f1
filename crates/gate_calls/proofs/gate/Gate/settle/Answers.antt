use Rattle.std.proofs.Common.{ap, ◌∙◌}
use Rattle.lent.specs.Items.{items, room}
use Rattle.book.specs.Resting.{resting_of}
use Rattle.book.specs.Books.{resting, count, last}
use Rattle.fills.specs.Fillings.{filling_of}
use Rattle.days.specs.Works.{line_for}
use Rattle.gate_calls.specs.Model.{state}
use Rattle.gate_calls.specs.Promises.{line_with}
use Rattle.gate_calls.proofs.Settling.{pushed, settled, taken_from_lem}
use Rattle.gate_calls.proofs.gate.Gate.settle.Goals as goal

pub returns : goal.returns
returns g c =
    let s = state c.args.self.now in
    let m = g.M.Market.levels c.args.market.now in
    let o = c.args.order in
    let f = c.args.fill in
    let t = c.args.self.now.tape in
    let b = c.reduce.new.self in
    let line = c.tape_line.ensures ∙ ap (λ n. line_for (resting_of o) n (filling_of f)) c.len.ensures.value in (
      settled s (line_with s o f) (last b) (count b) (resting b) _ (room c.push.new.self) c.reduce.ensures.last c.reduce.ensures.count c.reduce.ensures.rests
          (pushed (room t) (items t) (items c.push.new.self) c.tape_line.result (line_with s o f) c.push.result _ c.requires.room c.push.ensures.refused c.push.ensures.items line) c.push.ensures.room,
      taken_from_lem s m (g.M.Market.levels c.take_legs.new.market) o f c.taken_side-side.result c.as_legs.result c.requires.held c.requires.fits c.taken_side-side.ensures c.as_legs.ensures.value c.take_legs.ensures.after,
    )
