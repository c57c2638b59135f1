use Rattle.std.proofs.Common.{◌≡◌, rules}
use Rattle.strategy.specs.Prices.{prevented_of}
use Rattle.strategy.proofs.Laws.{prevention_law}
use Rattle.strategy.proofs.class.Strategy.is_prevented.Goals as goal

pub returns : goal.returns
returns c =
    let e : c.beyond.result ≡ prevented_of c.args.self.class c.args.self.width c.args.side c.args.price c.args.buffers = search rules in
    record {
      decided = e;
      law = λ turned v. rw e (prevention_law c.args.self.class c.args.self.width turned c.args.side c.args.price c.args.buffers v);
    }
