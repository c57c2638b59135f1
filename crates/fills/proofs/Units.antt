-- How many units a fill has, and that the market has them.
use Rattle.std.proofs.Common.{◌≡◌, ℕ, zero, suc, ◌+◌, ◌*◌, ◌/◌, ◌<◌, ◌≤◌, min, Bool, true, false, cond, ◌&&◌, ltb, leb, List, [], ◌∷◌, ℤ, is_some, Some, None, Option, sym, refl, ap, ◌∙◌, le_trans, mul-le-mul_left, mul-zero, arith}
use native.Mathlib.Nat.{mul-div-le}
use Rattle.std.specs.List.{AllByRecursion, position_from}
use Rattle.std.proofs.lemmas.Nat.{le-div, mul-le}
use Rattle.std.proofs.lemmas.Bool.{and_parts, and_from, leb-true, le-leb, lt-ltb, ltb-false, cond-true}
use Rattle.strategy.specs.declared.legs.Legs.{Legs}
use Rattle.strategy.specs.Few.{listed}
use Rattle.market.specs.declared.quote.QuoteSide.{QuoteSide}
use Rattle.market.specs.declared.quote.Level.{Level}
use Rattle.market.specs.declared.leg.TradedLeg.{TradedLeg}
use Rattle.market.specs.Levels.{Levels, best_of, can_take}
use Rattle.market.specs.Net.{used_side, part_of, plus, net_side}
use Rattle.market.specs.Takes.{leg_ready, all_ready, distinct, can_take_legs, legs_taken}
use Rattle.market.proofs.Replaced.{refused_same}
use Rattle.orders.specs.SoundLegs.{ratios_in_range, sound}
use Rattle.fills.specs.Fills.{level_of, used_level, allowed}

none_from : (t : Bool) (n : ℕ) (r : Option ℕ) → cond t (Some n) r ≡ None → (t ≡ false) × (r ≡ None)
none_from true n r e = let z : ◌≡◌ {A = ℕ} 0 1 = cc in absurd (omega arith)
none_from false n r e = (refl, e)

ratio_first : (g : TradedLeg) (gs : List TradedLeg) → ratios_in_range (g ∷ gs) ≡ true → (1 ≤ g.ratio) × (ratios_in_range gs ≡ true)
ratio_first g gs e =
    let p = and_parts (leb 1 g.ratio && leb g.ratio 12) (ratios_in_range gs) e in
    (leb-true 1 g.ratio (and_parts (leb 1 g.ratio) (leb g.ratio 12) p.0).0, p.1)

both_there : (g : TradedLeg) (best : Option Level) (rest : Option ℤ) → 1 ≤ g.ratio → g.ratio ≤ (level_of best).size → is_some rest ≡ true → is_some (plus (part_of g best) rest) ≡ true
both_there g None rest h k e = absurd (omega arith)
both_there g (Some best) None h k e = e
both_there g (Some best) (Some x) h k e = refl

module _ (b : Levels) (q : QuoteSide) where
  -- the first leg, counted from n, that lacks its ratio
  abbrev first : ℕ → List TradedLeg → Option ℕ
  first n gs = position_from (λ g. ltb (used_level b q g).size g.ratio) n gs

  pub units_within : (u : ℕ) (gs : List TradedLeg) → allowed b q u gs ≤ u
  units_within u [] = omega arith
  units_within u (g ∷ gs) = let h = units_within (min ((used_level b q g).size / g.ratio) u) gs in omega arith

  pub units_some : (n u : ℕ) (gs : List TradedLeg) → 0 < u → ratios_in_range gs ≡ true → first n gs ≡ None → 0 < allowed b q u gs
  units_some n u [] h e k = h
  units_some n u (g ∷ gs) h e k =
      let r = ratio_first g gs e in
      let p = none_from (ltb (used_level b q g).size g.ratio) n (first (n + 1) gs) k in
      let s : g.ratio ≤ (used_level b q g).size = ltb-false (used_level b q g).size g.ratio p.0 in
      let m : 1 ≤ (used_level b q g).size / g.ratio = le-div 1 (used_level b q g).size g.ratio r.0 (omega arith) in
      units_some (n + 1) (min ((used_level b q g).size / g.ratio) u) gs (omega arith) r.1 p.1

  -- where every leg has its ratio there is a net price
  pub net_there : (n : ℕ) (gs : List TradedLeg) → ratios_in_range gs ≡ true → first n gs ≡ None → is_some (net_side b gs q) ≡ true
  net_there n [] e k = refl
  net_there n (g ∷ gs) e k =
      let r = ratio_first g gs e in
      let p = none_from (ltb (used_level b q g).size g.ratio) n (first (n + 1) gs) k in
      both_there g (best_of (b g.series (used_side g.side q))) (net_side b gs q) r.0 (ltb-false (used_level b q g).size g.ratio p.0) (net_there (n + 1) gs r.1 p.1)

  -- so many units are in every leg's first level
  pub units_shown : (v u : ℕ) (gs : List TradedLeg) → v ≤ allowed b q u gs → AllByRecursion (λ g. g.ratio * v ≤ (used_level b q g).size) gs
  units_shown v u [] h = tt
  units_shown v u (g ∷ gs) h =
      let w = units_within (min ((used_level b q g).size / g.ratio) u) gs in
      let m : v ≤ (used_level b q g).size / g.ratio = omega arith in
      (le_trans (mul-le-mul_left g.ratio m) (mul-div-le (used_level b q g).size g.ratio), units_shown v (min ((used_level b q g).size / g.ratio) u) gs h)

  first_has : (ls : List Level) (n : ℕ) → 0 < n → n ≤ (level_of (best_of ls)).size → can_take ls n ≡ true
  first_has [] n h k = absurd (omega arith)
  first_has (l ∷ ls) n h k = and_from (ltb 0 n) (leb n l.size) (lt-ltb 0 n h) (le-leb n l.size k)

  all_ready_lem : (u : ℕ) (gs : List TradedLeg) → 0 < u → ratios_in_range gs ≡ true → AllByRecursion (λ g. g.ratio * u ≤ (used_level b q g).size) gs → all_ready b q u gs ≡ true
  all_ready_lem u [] h e k = refl
  all_ready_lem u (g ∷ gs) h e k =
      let r = ratio_first g gs e in
      and_from (leg_ready b q u g) (all_ready b q u gs) (first_has (b g.series (used_side g.side q)) (g.ratio * u) (mul-le 1 1 g.ratio u r.0 h) k.0) (all_ready_lem u gs h r.1 k.1)

  none_of : (ls : List Level) (r : ℕ) → can_take ls (r * 0) ≡ false
  none_of [] r = refl
  none_of (l ∷ ls) r = rw (mul-zero r)

-- no units take nothing
none_taken : (b : Levels) (q : QuoteSide) (gs : List TradedLeg) → legs_taken b q 0 gs ≡ b
none_taken b q [] = refl
none_taken b q (g ∷ gs) =
    ap (λ x. legs_taken x q 0 gs) (refused_same b g.series (used_side g.side q) (g.ratio * 0) (none_of b q (b g.series (used_side g.side q)) g.ratio))
    ∙ none_taken b q gs

same_cond : {A : Type 0} (t : Bool) (x y : A) → x ≡ y → cond t x y ≡ x
same_cond true x y e = refl
same_cond false x y e = sym e

-- the takes of a fill are not refused
pub can_take_lem : (b : Levels) (q : QuoteSide) (u : ℕ) (gs : List TradedLeg) → sound gs ≡ true → AllByRecursion (λ g. g.ratio * u ≤ (used_level b q g).size) gs → 0 < u → can_take_legs b q u gs ≡ true
can_take_lem b q u gs e k h =
    let p = and_parts (ratios_in_range gs) (distinct gs) e in
    and_from (distinct gs) (all_ready b q u gs) p.1 (all_ready_lem b q u gs h p.0 k)

takes_made : (b : Levels) (q : QuoteSide) (u : ℕ) (gs : List TradedLeg) → sound gs ≡ true → AllByRecursion (λ g. g.ratio * u ≤ (used_level b q g).size) gs → cond (can_take_legs b q u gs) (legs_taken b q u gs) b ≡ legs_taken b q u gs
takes_made b q zero gs e k = same_cond (can_take_legs b q 0 gs) (legs_taken b q 0 gs) b (none_taken b q gs)
takes_made b q (suc u) gs e k = cond-true (can_take_legs b q (suc u) gs) (legs_taken b q (suc u) gs) b (can_take_lem b q (suc u) gs e k (omega arith))

-- the levels a after the takes of the legs, by a side s and legs that are those of the order
pub after_takes : (b a : Levels) (q s : QuoteSide) (u : ℕ) (legs given : Legs TradedLeg) → sound (listed legs) ≡ true → AllByRecursion (λ g. g.ratio * u ≤ (used_level b q g).size) (listed legs) → s ≡ q → given ≡ legs → a ≡ cond (can_take_legs b s u (listed given)) (legs_taken b s u (listed given)) b → a ≡ legs_taken b q u (listed legs)
after_takes b a q s u legs given e k es el h =
    h ∙ ap (λ x. cond (can_take_legs b x u (listed given)) (legs_taken b x u (listed given)) b) es
    ∙ ap (λ l. cond (can_take_legs b q u (listed l)) (legs_taken b q u (listed l)) b) el ∙ takes_made b q u (listed legs) e k
