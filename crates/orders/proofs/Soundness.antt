-- Legs that passed their checks are sound.
use Rattle.std.proofs.Common.{◌≡◌, ℕ, ◌+◌, Bool, true, false, cond, not, ◌&&◌, ◌||◌, eqb, leb, List, [], ◌∷◌, ◌++◌, map, ℤ, pos, negsuc, Some, None, Option, sym, refl, ap, ◌∙◌, arith}
use Rattle.std.specs.List.{AllByRecursion}
use Rattle.std.proofs.lemmas.Bool.{and_parts, and_from, or_parts, or_from, not_from_false, eqb-false, ne_eqb}
use Rattle.std.proofs.lemmas.Int.{ints}
use Rattle.std.proofs.lemmas.Bool.Decides.{nat_tests}
use Rattle.market.specs.declared.leg.TradedLeg.{TradedLeg}
use Rattle.market.specs.Takes.{in_series, distinct}
use Rattle.orders.specs.declared.records.LegTerms.{LegTerms}
use Rattle.orders.specs.Checks.{first_bad, between, amount}
use Rattle.orders.specs.Ranges.{leg_in_range, traded_leg}
use Rattle.orders.specs.Orders.{names, repeated}
use Rattle.orders.specs.SoundLegs.{ratios_in_range, sound, turned_leg}

-- Turning keeps ratios and series.

turned_series : (t : Bool) (k : ℕ) (gs : List TradedLeg) → in_series k (map (turned_leg t) gs) ≡ in_series k gs
turned_series t k [] = refl
turned_series t k (g ∷ gs) = ap (λ b. eqb g.series k || b) (turned_series t k gs)

turned_distinct : (t : Bool) (gs : List TradedLeg) → distinct (map (turned_leg t) gs) ≡ distinct gs
turned_distinct t [] = refl
turned_distinct t (g ∷ gs) =
    ap (λ b. not b && distinct (map (turned_leg t) gs)) (turned_series t g.series gs) ∙ ap (λ b. not (in_series g.series gs) && b) (turned_distinct t gs)

turned_ratios : (t : Bool) (gs : List TradedLeg) → ratios_in_range (map (turned_leg t) gs) ≡ ratios_in_range gs
turned_ratios t [] = refl
turned_ratios t (g ∷ gs) = ap (λ b. (leb 1 g.ratio && leb g.ratio 12) && b) (turned_ratios t gs)

pub turned_sound : (t : Bool) (gs : List TradedLeg) → sound gs ≡ true → sound (map (turned_leg t) gs) ≡ true
turned_sound t gs e = ap (λ b. b && distinct (map (turned_leg t) gs)) (turned_ratios t gs) ∙ ap (λ b. ratios_in_range gs && b) (turned_distinct t gs) ∙ e

-- Ratios in range

in_twelve : (z : ℤ) → between (pos 1) (pos 12) z ≡ true → (leb 1 (amount z) && leb (amount z) 12) ≡ true
in_twelve (pos n) e = grind (arith, ints, nat_tests)
in_twelve (negsuc n) e = grind (arith, ints, nat_tests)

none_of : (b : Bool) (n : ℕ) (next : Option ℕ) → cond b next (Some n) ≡ None → (b ≡ true) × (next ≡ None)
none_of true n next e = (refl, e)
none_of false n next e = let z : ◌≡◌ {A = ℕ} 0 1 = cc in absurd (omega arith)

in_range_lem : (n : ℕ) (legs : List LegTerms) → first_bad leg_in_range n legs ≡ None → ratios_in_range (map traded_leg legs) ≡ true
in_range_lem n [] e = refl
in_range_lem n (l ∷ ls) e =
    let p = none_of (leg_in_range l) n (first_bad leg_in_range (n + 1) ls) e in
    let r = and_parts (between (pos 1) (pos 12) l.ratio) (between (pos 0) (pos 255) l.series) p.0 in
    and_from (leb 1 (amount l.ratio) && leb (amount l.ratio) 12) (ratios_in_range (map traded_leg ls)) (in_twelve l.ratio r.0) (in_range_lem (n + 1) ls p.1)

-- Different series

names_push : (k j : ℕ) (ks : List ℕ) → names k (ks ++ j ∷ []) ≡ false → (names k ks ≡ false) × (eqb j k ≡ false)
names_push k j [] e = (refl, (or_parts (eqb j k) false e).0)
names_push k j (x ∷ xs) e =
    let p = or_parts (eqb x k) (names k (xs ++ j ∷ [])) e in
    let q = names_push k j xs p.1 in
    (or_from (eqb x k) (names k xs) p.0 q.0, q.1)

none_of_first : (b : Bool) (n : ℕ) (next : Option ℕ) → cond b (Some n) next ≡ None → (b ≡ false) × (next ≡ None)
none_of_first true n next e = let z : ◌≡◌ {A = ℕ} 0 1 = cc in absurd (omega arith)
none_of_first false n next e = (refl, e)

abbrev Apart : List ℕ → List TradedLeg → Type 0
Apart earlier gs = AllByRecursion (λ g. names g.series earlier ≡ false) gs

apart_less : (earlier : List ℕ) (k : ℕ) (gs : List TradedLeg) → Apart (earlier ++ k ∷ []) gs → Apart earlier gs
apart_less earlier k [] a = tt
apart_less earlier k (g ∷ gs) a = ((names_push g.series k earlier a.0).0, apart_less earlier k gs a.1)

apart_last : (earlier : List ℕ) (k : ℕ) (gs : List TradedLeg) → Apart (earlier ++ k ∷ []) gs → in_series k gs ≡ false
apart_last earlier k [] a = refl
apart_last earlier k (g ∷ gs) a =
    let ne = eqb-false k g.series (names_push g.series k earlier a.0).1 in
    or_from (eqb g.series k) (in_series k gs) (ne_eqb g.series k (λ e. ne (sym e))) (apart_last earlier k gs a.1)

apart : (earlier : List ℕ) (n : ℕ) (gs : List TradedLeg) → repeated earlier n (map (λ g. g.series) gs) ≡ None → Apart earlier gs × (distinct gs ≡ true)
apart earlier n [] e = (tt, refl)
apart earlier n (g ∷ gs) e =
    let p = none_of_first (names g.series earlier) n (repeated (earlier ++ g.series ∷ []) (n + 1) (map (λ x. x.series) gs)) e in
    let r = apart (earlier ++ g.series ∷ []) (n + 1) gs p.1 in (
      (p.0, apart_less earlier g.series gs r.0),
      and_from (not (in_series g.series gs)) (distinct gs) (not_from_false (in_series g.series gs) (apart_last earlier g.series gs r.0)) r.1,
    )

pub passed_sound : (legs : List LegTerms) (gs : List TradedLeg) → first_bad leg_in_range 1 legs ≡ None → gs ≡ map traded_leg legs → repeated [] 1 (map (λ g. g.series) gs) ≡ None → sound gs ≡ true
passed_sound legs gs r e d = and_from (ratios_in_range gs) (distinct gs) (ap ratios_in_range e ∙ in_range_lem 1 legs r) (apart [] 1 gs d).1
