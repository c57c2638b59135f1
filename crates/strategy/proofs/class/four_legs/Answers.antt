use Rattle.std.proofs.Common.{◌≡◌, List, [], ◌∷◌, arith, rules}
use Rattle.std.specs.Option.{option_map}
use Rattle.strategy.specs.declared.class.Class.TheVariants.{BoxSpread}
use Rattle.strategy.specs.declared.leg.Leg.{Leg}
use Rattle.strategy.proofs.Excluded.{one_class, length-vertical, length-calendar, length-butterfly}
use Rattle.strategy.proofs.class.four_legs.Goals as goal

pub returns : goal.returns
returns c =
    let legs : List Leg = c.args.a ∷ c.args.b ∷ c.args.c ∷ c.args.d ∷ [] in
    let e : c.map.result ≡ option_map (λ w. record { class = BoxSpread; width = w }) c.box_width.result = search rules in
    rw e
    (one_class legs BoxSpread c.box_width.result c.box_width.ensures
    (λ no. record {
      bought = c.requires;
      vertical = λ w v. omega (arith, length-vertical w legs v);
      calendar = λ v. omega (arith, length-calendar 0 legs v);
      butterfly = λ w v. omega (arith, length-butterfly w legs v);
      box = no;
    }))
