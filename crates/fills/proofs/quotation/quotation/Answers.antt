use Rattle.std.proofs.Common.{◌≡◌, Ok, Err, Result, is_some, sym, ap, ◌∙◌, w32, to_z, of_z, rules}
use Rattle.std.proofs.lemmas.Bool.{and_parts}
use Rattle.strategy.specs.Few.{listed}
use Rattle.market.specs.Takes.{distinct}
use Rattle.orders.specs.SoundLegs.{ratios_in_range, sound}
use Rattle.orders.specs.declared.fault.GateFault.{GateFault}
use Rattle.orders.specs.declared.fault.GateFault.TheVariants.{Prevented}
use Rattle.fills.specs.declared.fill.Fill.{Fill}
use Rattle.fills.specs.Quotes.{quoted}
use Rattle.fills.proofs.Legs.{ratios_some, ratios_small}
use Rattle.fills.proofs.Units.{net_there}
use Rattle.fills.proofs.Quotes.{filled, fill_law, low_buy}
use Rattle.fills.proofs.quotation.quotation.Goals as goal

pub returns-then-is_prevented : goal.returns-then-is_prevented
returns-then-is_prevented g c =
    let b = g.M.Market.levels c.args.market.now in
    let o = c.args.order.now in
    let e : ◌≡◌ {A = Result Fill GateFault} (Err Prevented) (quoted b o c.args.remaining c.args.buffers) = search rules in
    record { answer = e; fill = tt; law = fill_law b o c.args.remaining c.args.buffers _ e; low = low_buy b o c.args.remaining c.args.buffers _ e }

pub returns : goal.returns
returns g c =
    let b = g.M.Market.levels c.args.market.now in
    let o = c.args.order.now in
    let e : ◌≡◌ {A = Result Fill GateFault} (Ok (record { units = c.units_allowed.result; net = to_z w32 (of_z w32 c.unwrap-net.result); legs = c.leg_fills.result })) (quoted b o c.args.remaining c.args.buffers) = search rules in
    record {
      answer = e;
      fill = filled b o c.args.remaining c.args.buffers _ e;
      law = fill_law b o c.args.remaining c.args.buffers _ e;
      low = low_buy b o c.args.remaining c.args.buffers _ e;
    }

pub unwrap-net-requires : goal.unwrap-net-requires
unwrap-net-requires g c =
    let legs = listed c.as_legs-legs.result in
    let ratios = (and_parts (ratios_in_range legs) (distinct legs) c.as_legs-legs.ensures.sound).0 in
    ap is_some c.net_price.ensures ∙ net_there (g.M.Market.levels c.args.market.now) c.taken_side-side.result 1 legs ratios (sym c.lacking_leg.ensures ∙ c.in_default.is)

pub units_allowed-requires : goal.units_allowed-requires
units_allowed-requires g c = ratios_some c.as_slice.result.now (ap sound c.as_slice.ensures.value ∙ c.as_legs-legs.ensures.sound)

pub leg_fills-requires : goal.leg_fills-requires
leg_fills-requires g c = ratios_small (listed c.as_legs-legs.result) c.as_legs-legs.ensures.sound
