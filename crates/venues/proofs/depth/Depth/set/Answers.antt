use Rattle.std.proofs.Common.{◌<◌, ◌≤◌, length, set, Ok, Err, sym, ap, ◌∙◌, arith}
use Rattle.std.specs.List.{insert, remove}
use Rattle.std.proofs.lemmas.Bool.{cond-true, ne_eqb}
use Rattle.std.proofs.lemmas.Bool.Decides.{nat_tests}
use Rattle.market.specs.declared.quote.MarketFault.TheVariants.{NinthLevel}
use Rattle.venues.specs.Depths.{depth_levels}
use Rattle.venues.specs.Sizes.{ninth, with_size}
use Rattle.venues.proofs.Places.{found_here, found_away, place_lt, place_le, size_gone, size_same, size_set, size_put, written}
use Rattle.venues.proofs.Shown.{ninth_here, ninth_none, ninth_room, ninth_away, set_answer_lem, set_after_lem}
use Rattle.venues.proofs.depth.Depth.set.Goals as goal

pub remove-requires : goal.remove-requires
remove-requires c =
    let ls = depth_levels c.args.self.now in
    let f = found_here c.args.side c.args.level.price ls c.in-Ok.i c.in-Ok.ensures in
    (omega arith, omega (arith, f.1, place_lt c.args.side c.args.level.price ls f.0))

pub bounds-deref_mut-i : goal.bounds-deref_mut-i
bounds-deref_mut-i c =
    let ls = depth_levels c.args.self.now in
    let f = found_here c.args.side c.args.level.price ls c.in-Ok.i c.in-Ok.ensures in
    omega (arith, f.1, place_lt c.args.side c.args.level.price ls f.0, ap length c.deref_mut.ensures.value)

pub offset_bounds-deref_mut-i : goal.offset_bounds-deref_mut-i
offset_bounds-deref_mut-i c =
    let ls = depth_levels c.args.self.now in
    let f = found_here c.args.side c.args.level.price ls c.in-Ok.i c.in-Ok.ensures in
    let few = c.deref_mut.ensures.fits in
    omega (arith, few, f.1, place_lt c.args.side c.args.level.price ls f.0, ap length c.deref_mut.ensures.value)

pub insert-requires : goal.insert-requires
insert-requires c =
    let ls = depth_levels c.args.self.now in
    let f = found_away c.args.side c.args.level.price ls c.in-Err.field-0 c.in-Err.ensures in
    let fits : length ls ≤ 8 = c.is_full.ensures.fits in
    let room : length ls < 8 = grind (arith, nat_tests, c.if-is_full.ensures.value, fits) in
    (omega arith, (omega (arith, f.1, place_le c.args.side c.args.level.price ls), room))

pub returns-in-Ok : goal.returns-in-Ok
returns-in-Ok c =
    let ls = depth_levels c.args.self.now in
    let s = c.args.side in
    let p = c.args.level.price in
    let n = c.args.level.size in
    let f = found_here s p ls c.in-Ok.i c.in-Ok.ensures in
    let few = ninth_here p n ls s c.requires f.0 in
    let gone = c.remove.ensures.items ∙ ap (remove ls) f.1 ∙ sym (size_gone s p ls f.0) ∙ ap (λ k. with_size s p k ls) (sym c.if-level-eq0.true) in
    record { answer = set_answer_lem s p n ls few; after = set_after_lem s p n ls few c.remove.new.self.items gone }

pub returns-in-Ok-2 : goal.returns-in-Ok-2
returns-in-Ok-2 c =
    let ls = depth_levels c.args.self.now in
    let s = c.args.side in
    let p = c.args.level.price in
    let n = c.args.level.size in
    let f = found_here s p ls c.in-Ok.i c.in-Ok.ensures in
    let few = ninth_here p n ls s c.requires f.0 in
    let some = ne_eqb n 0 c.if-level-eq0.false in
    let done = written ls _ c.in-Ok.i c.args.level c.deref_mut.ensures.value ∙ ap (λ k. set ls k c.args.level) f.1 ∙ sym (size_set s p n some ls f.0) in
    record { answer = set_answer_lem s p n ls few; after = set_after_lem s p n ls few _ done }

pub returns-in-Err : goal.returns-in-Err
returns-in-Err c =
    let ls = depth_levels c.args.self.now in
    let s = c.args.side in
    let p = c.args.level.price in
    let n = c.args.level.size in
    let f = found_away s p ls c.in-Err.field-0 c.in-Err.ensures in
    let few = ninth_none p n ls c.if-level-eq0-2.true in
    let same = sym (ap (λ k. with_size s p k ls) c.if-level-eq0-2.true ∙ size_same s p ls f.0) in
    record { answer = set_answer_lem s p n ls few; after = set_after_lem s p n ls few ls same }

pub returns-in-Err-2 : goal.returns-in-Err-2
returns-in-Err-2 c =
    let ls = depth_levels c.args.self.now in
    let s = c.args.side in
    let p = c.args.level.price in
    let n = c.args.level.size in
    let f = found_away s p ls c.in-Err.field-0 c.in-Err.ensures in
    let some = ne_eqb n 0 c.if-level-eq0-2.false in
    let full : 8 ≤ length ls = grind (arith, nat_tests, c.if-is_full.ensures.value) in
    let deep = ninth_away p n ls s c.requires f.0 some full in
    record { answer = sym (cond-true (ninth p n ls) (Err NinthLevel) (Ok tt) deep); after = sym (cond-true (ninth p n ls) ls (with_size s p n ls) deep) }

pub returns-in-Err-3 : goal.returns-in-Err-3
returns-in-Err-3 c =
    let ls = depth_levels c.args.self.now in
    let s = c.args.side in
    let p = c.args.level.price in
    let n = c.args.level.size in
    let f = found_away s p ls c.in-Err.field-0 c.in-Err.ensures in
    let fits : length ls ≤ 8 = c.is_full.ensures.fits in
    let room : length ls < 8 = grind (arith, nat_tests, c.if-is_full.ensures.value, fits) in
    let few = ninth_room p n ls room in
    let some = ne_eqb n 0 c.if-level-eq0-2.false in
    let done = c.insert.ensures.items ∙ ap (λ k. insert ls k c.args.level) f.1 ∙ sym (size_put s p n some ls f.0) in
    record { answer = set_answer_lem s p n ls few; after = set_after_lem s p n ls few c.insert.new.self.items done }
