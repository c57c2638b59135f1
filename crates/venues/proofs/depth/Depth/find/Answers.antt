use Rattle.std.proofs.Common.{◌≤◌, length}
use Rattle.venues.specs.Depths.{depth_levels}
use Rattle.venues.proofs.Places.{found_first, found_other, found_after}
use Rattle.venues.proofs.depth.Depth.find.Goals as goal

pub returns-in-Some : goal.returns-in-Some
returns-in-Some c =
    let got = c.in-Some.ensures.lookup in
    found_first c.args.side c.args.price (depth_levels c.args.self.now) _ c.deref.ensures.0 _ c.place-place.ensures c.in-Some.level.now got.3.0 got.3.1 c.if-level-price.true

pub returns-in_default : goal.returns-in_default
returns-in_default c =
    let got = c.in-Some.ensures.lookup in
    found_other c.args.side c.args.price (depth_levels c.args.self.now) _ c.deref.ensures.0 _ c.place-place.ensures c.in-Some.level.now got.3.0 got.3.1 c.if-level-price.false

pub returns-in_default-2 : goal.returns-in_default-2
returns-in_default-2 c =
    let past : length c.deref.result.now ≤ c.place-place.result = rw c.in_default.is at c.get.ensures.lookup.3 in
    found_after c.args.side c.args.price (depth_levels c.args.self.now) _ c.deref.ensures.0 _ c.place-place.ensures past
