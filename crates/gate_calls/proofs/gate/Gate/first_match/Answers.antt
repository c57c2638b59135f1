use Rattle.std.proofs.Common.{sym, arith}
use Rattle.book.specs.Books.{in_use}
use Rattle.book.proofs.Looks.{look_low}
use Rattle.gate_calls.specs.Model.{state}
use Rattle.gate_calls.proofs.Sweep.{idle_none, idle_more, idle_all, first_found}
use Rattle.gate_calls.proofs.gate.Gate.first_match.Goals as goal

pub loop-order-init : goal.loop-order-init
loop-order-init g c = λ k low.
    let book = c.args.self.now.book in
    idle_none (state c.args.self.now) (g.M.Market.levels c.args.market.now) k (look_low 0 book.given k (in_use book) book.orderly low)

pub returns-in-Ok : goal.returns-in-Ok
returns-in-Ok g c =
    first_found (state c.args.self.now) (g.M.Market.levels c.args.market.now) c.loop-order.above c.in-Some.order c.in-Ok.fill c.loop-order.invariant c.in-Some.ensures.next (sym c.in-Ok.ensures)

pub loop-order-smaller : goal.loop-order-smaller
loop-order-smaller g c = omega (arith, c.in-Some.ensures.next.above, c.in-Some.ensures.small)

pub loop-order-preserved : goal.loop-order-preserved
loop-order-preserved g c =
    idle_more (state c.args.self.now) (g.M.Market.levels c.args.market.now) c.loop-order.above c.in-Some.order c.in_default-quote.field-0 c.loop-order.invariant c.in-Some.ensures.next (sym c.in_default-quote.ensures)

pub returns : goal.returns
returns g c = idle_all (state c.args.self.now) (g.M.Market.levels c.args.market.now) c.loop-order.above c.loop-order.invariant c.in_default.ensures.next
