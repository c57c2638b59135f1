use Rattle.std.proofs.Common.{◌≡◌, List, [], ◌∷◌, arith, rules}
use Rattle.std.specs.Option.{option_map}
use Rattle.strategy.specs.declared.class.Class.TheVariants.{Butterfly}
use Rattle.strategy.specs.declared.leg.Leg.{Leg}
use Rattle.strategy.proofs.Excluded.{one_class, length-vertical, length-calendar, length-box}
use Rattle.strategy.proofs.class.three_legs.Goals as goal

pub returns : goal.returns
returns c =
    let legs : List Leg = c.args.a ∷ c.args.b ∷ c.args.c ∷ [] in
    let e : c.map.result ≡ option_map (λ w. record { class = Butterfly; width = w }) c.butterfly_width.result = search rules in
    rw e
    (one_class legs Butterfly c.butterfly_width.result c.butterfly_width.ensures
    (λ no. record {
      bought = c.requires;
      vertical = λ w v. omega (arith, length-vertical w legs v);
      calendar = λ v. omega (arith, length-calendar 0 legs v);
      butterfly = no;
      box = λ w v. omega (arith, length-box w legs v);
    }))
