use Rattle.std.proofs.Common.{List, [], ◌∷◌, arith}
use Rattle.strategy.specs.declared.class.Class.TheVariants.{Calendar}
use Rattle.strategy.specs.declared.leg.Leg.{Leg}
use Rattle.strategy.proofs.Excluded.{flat_class, length-butterfly, length-box}
use Rattle.strategy.proofs.class.two_legs.Goals as goal

pub returns : goal.returns
returns c =
    let legs : List Leg = c.args.a ∷ c.args.b ∷ [] in
    rw c.then_some.ensures
    (flat_class legs Calendar c.is_calendar.result c.is_calendar.ensures
    (λ no. record {
      bought = c.requires;
      vertical = c.in_default.ensures;
      calendar = no;
      butterfly = λ w v. omega (arith, length-butterfly w legs v);
      box = λ w v. omega (arith, length-box w legs v);
    }))
