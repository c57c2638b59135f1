-- Takes from each leg in turn.
use Rattle.std.proofs.Common.{◌≡◌, ℕ, ◌+◌, ◌*◌, ◌<◌, ◌≤◌, true, false, not, eqb, List, [], ◌∷◌, length, drop, Ok, Err, sym, refl, ap, ◌∙◌, subst}
use Rattle.std.specs.List.{AllByRecursion}
use Rattle.std.proofs.lemmas.List.{drop_more, drop_all}
use Rattle.std.proofs.lemmas.Bool.{cond-true, ne_eqb, eqb-false, and_parts, and_from, or_parts, or_from, not_from_false, not-true}
use Rattle.market.specs.declared.quote.QuoteSide.{QuoteSide}
use Rattle.market.specs.declared.quote.MarketFault.TheVariants.{Take}
use Rattle.market.specs.declared.leg.TradedLeg.{TradedLeg}
use Rattle.market.specs.Levels.{Levels, can_take, take_answer, taken_at}
use Rattle.market.specs.Net.{used_side}
use Rattle.strategy.specs.declared.leg.Side.TheVariants.{Buy}
use Rattle.market.specs.Takes.{leg_ready, all_ready, in_series, distinct, can_take_legs, leg_taken, legs_taken, Distinct, Ready}
use Rattle.market.proofs.Nets.{leg_at}

-- each leg can be taken once those before it are
abbrev pub InTurn : Levels → QuoteSide → ℕ → List TradedLeg → Type 0
InTurn b q u [] = Unit {0}
InTurn b q u (g ∷ gs) = (leg_ready b q u g ≡ true) × InTurn (leg_taken b q u g) q u gs

-- a take leaves every other series as it was
pub other_series : (b : Levels) (k j : ℕ) (s t : QuoteSide) (n : ℕ) → (j ≡ k → ⊥) → taken_at b k s n j t ≡ b j t
other_series b k j s t n ne = rw (ne_eqb j k ne)

still_ready : (b : Levels) (q : QuoteSide) (u : ℕ) (g : TradedLeg) (gs : List TradedLeg) → AllByRecursion (λ x. x.series ≡ g.series → ⊥) gs → Ready b q u gs → Ready (leg_taken b q u g) q u gs
still_ready b q u g [] d r = tt
still_ready b q u g (x ∷ xs) d r = (
  ap (λ ls. can_take ls (x.ratio * u)) (other_series b g.series x.series (used_side g.side q) (used_side x.side q) (g.ratio * u) d.0) ∙ r.0,
  still_ready b q u g xs d.1 r.1,
)

in_turn : (b : Levels) (q : QuoteSide) (u : ℕ) (gs : List TradedLeg) → Distinct gs → Ready b q u gs → InTurn b q u gs
in_turn b q u [] d r = tt
in_turn b q u (g ∷ gs) d r = (r.0, in_turn (leg_taken b q u g) q u gs d.1 (still_ready b q u g gs d.0 r.1))

-- the tests of the legs, and what they say of each leg
away_false : (k : ℕ) (gs : List TradedLeg) → AllByRecursion (λ x. x.series ≡ k → ⊥) gs → in_series k gs ≡ false
away_false k [] d = refl
away_false k (x ∷ xs) d = or_from (eqb x.series k) (in_series k xs) (ne_eqb x.series k d.0) (away_false k xs d.1)

false_away : (k : ℕ) (gs : List TradedLeg) → in_series k gs ≡ false → AllByRecursion (λ x. x.series ≡ k → ⊥) gs
false_away k [] e = tt
false_away k (x ∷ xs) e = let p = or_parts (eqb x.series k) (in_series k xs) e in (eqb-false x.series k p.0, false_away k xs p.1)

distinct_true : (gs : List TradedLeg) → Distinct gs → distinct gs ≡ true
distinct_true [] d = refl
distinct_true (g ∷ gs) d = and_from (not (in_series g.series gs)) (distinct gs) (not_from_false (in_series g.series gs) (away_false g.series gs d.0)) (distinct_true gs d.1)

pub true_distinct : (gs : List TradedLeg) → distinct gs ≡ true → Distinct gs
true_distinct [] e = tt
true_distinct (g ∷ gs) e =
    let p = and_parts (not (in_series g.series gs)) (distinct gs) e in
    (false_away g.series gs (not-true (in_series g.series gs) p.0), true_distinct gs p.1)

ready_true : (b : Levels) (q : QuoteSide) (u : ℕ) (gs : List TradedLeg) → Ready b q u gs → all_ready b q u gs ≡ true
ready_true b q u [] r = refl
ready_true b q u (g ∷ gs) r = and_from (leg_ready b q u g) (all_ready b q u gs) r.0 (ready_true b q u gs r.1)

true_ready : (b : Levels) (q : QuoteSide) (u : ℕ) (gs : List TradedLeg) → all_ready b q u gs ≡ true → Ready b q u gs
true_ready b q u [] e = tt
true_ready b q u (g ∷ gs) e = let p = and_parts (leg_ready b q u g) (all_ready b q u gs) e in (p.0, true_ready b q u gs p.1)

module _ (b : Levels) (q : QuoteSide) (u : ℕ) (gs : List TradedLeg) where
  -- legs in different series, each with enough in its first level, can be taken in one go
  pub can_take_legs_lem : Distinct gs → Ready b q u gs → can_take_legs b q u gs ≡ true
  can_take_legs_lem d r = and_from (distinct gs) (all_ready b q u gs) (distinct_true gs d) (ready_true b q u gs r)

  pub legs_in_turn : distinct gs ≡ true → all_ready b q u gs ≡ true → InTurn b q u gs
  legs_in_turn d r = in_turn b q u gs (true_distinct gs d) (true_ready b q u gs r)

-- leg i of some legs
module _ (gs : List TradedLeg) (i : ℕ) (h : i < length gs) where
  next : drop i gs ≡ leg_at gs i ∷ drop (i + 1) gs
  next = drop_more gs i (record { side = Buy; ratio = 0; series = 0 }) h

  -- n contracts of it are taken from its series k on the side v, which turns the levels b into a
  module _ (b : Levels) (q : QuoteSide) (u : ℕ) (k : ℕ) (ek : k ≡ (leg_at gs i).series) (v : QuoteSide) (ev : v ≡ used_side (leg_at gs i).side q) (n : ℕ) (en : n ≡ (leg_at gs i).ratio * u) (turn : InTurn b q u (drop i gs)) where
    both : (leg_ready b q u (leg_at gs i) ≡ true) × InTurn (leg_taken b q u (leg_at gs i)) q u (drop (i + 1) gs)
    both = subst (InTurn b q u) next turn

    pub leg_answer : take_answer (b k v) n ≡ Ok tt
    leg_answer = ap (λ j. take_answer (b j v) n) ek ∙ ap (λ s. take_answer (b (leg_at gs i).series s) n) ev ∙ ap (take_answer (b (leg_at gs i).series (used_side (leg_at gs i).side q))) en ∙ cond-true (leg_ready b q u (leg_at gs i)) (Ok tt) (Err Take) both.0

    module _ (a : Levels) (ea : a ≡ taken_at b k v n) where
      leg_after : a ≡ leg_taken b q u (leg_at gs i)
      leg_after = ea ∙ ap (λ j. taken_at b j v n) ek ∙ ap (λ s. taken_at b (leg_at gs i).series s n) ev ∙ ap (taken_at b (leg_at gs i).series (used_side (leg_at gs i).side q)) en

      pub turn_more : InTurn a q u (drop (i + 1) gs)
      turn_more = subst (λ x. InTurn x q u (drop (i + 1) gs)) (sym leg_after) both.1

      pub taken_more : (c : Levels) → legs_taken b q u (drop i gs) ≡ c → legs_taken a q u (drop (i + 1) gs) ≡ c
      taken_more c inv = ap (λ x. legs_taken x q u (drop (i + 1) gs)) leg_after ∙ ap (legs_taken b q u) (sym next) ∙ inv

pub taken_all : (b c : Levels) (q : QuoteSide) (u : ℕ) (gs : List TradedLeg) (i : ℕ) → length gs ≤ i → legs_taken b q u (drop i gs) ≡ c → b ≡ c
taken_all b c q u gs i h inv = ap (legs_taken b q u) (sym (drop_all i gs h)) ∙ inv
