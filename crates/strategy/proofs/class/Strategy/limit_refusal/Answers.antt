use Rattle.std.proofs.Common.{◌≡◌, w64, SFits, rules}
use Rattle.strategy.specs.Few.{listed}
use Rattle.strategy.specs.Prices.{limit_refusal}
use Rattle.strategy.proofs.Laws.{limit_law}
use Rattle.strategy.proofs.class.Strategy.limit_refusal.Goals as goal

pub returns : goal.returns
returns c =
    let f : SFits w64 c.args.limit = c.ranges.limit in
    let e : c.bounds_refusal.result ≡ limit_refusal c.args.self.class c.args.self.width (listed c.args.legs.now) c.args.side c.args.limit c.args.buffers = search rules in
    record {
      decided = e;
      law = λ turned v. rw e (limit_law c.args.self.class c.args.self.width (listed c.args.legs.now) turned c.args.side c.args.limit c.args.buffers v);
    }
