-- What a fill takes, and at what price.
use Rattle.std.proofs.Common.{◌≡◌, ℕ, zero, suc, ◌*◌, ◌<◌, Bool, true, false, not, ltb, leb, ◌⊎◌, List, [], ◌∷◌, map, length, ℤ, pos, ◌+ℤ◌, nat_abs, Some, None, Ok, Err, Option, Result, sym, refl, ap, ◌∙◌, subst, inl, inr, ⊎_elim, zero-mul, arith, lit<}
use Rattle.std.specs.List.{AllByRecursion}
use Rattle.std.proofs.lemmas.Bool.{and_parts, cases_Bool, leb-true, ltb-true, not-true}
use Rattle.strategy.specs.declared.leg.Side.{Side}
use Rattle.strategy.specs.declared.leg.Side.TheVariants.{Buy, Sell}
use Rattle.strategy.specs.declared.price.Buffers.{Buffers}
use Rattle.strategy.specs.Payoff.{signed}
use Rattle.strategy.specs.Prices.{prevented_of}
use Rattle.market.specs.declared.quote.QuoteSide.{QuoteSide}
use Rattle.market.specs.declared.quote.Level.{Level}
use Rattle.market.specs.declared.leg.TradedLeg.{TradedLeg}
use Rattle.market.specs.Levels.{Levels, taken_at, best_of, can_take}
use Rattle.market.specs.Net.{used_side, part_of, plus, leg_part, net_side}
use Rattle.market.specs.Takes.{leg_ready, all_ready, distinct, leg_taken, legs_taken, Distinct}
use Rattle.market.proofs.LegTakes.{other_series, true_distinct}
use Rattle.orders.specs.declared.fault.GateFault.{GateFault}
use Rattle.orders.specs.declared.fault.GateFault.TheVariants as gate
use Rattle.orders.specs.Checks.{check, check_at}
use Rattle.orders.specs.Faults.{number_of}
use Rattle.orders.specs.SoundLegs.{sound, turned_leg}
use Rattle.orders.specs.TurnedTerms.{Terms}
use Rattle.book.specs.Resting.{Resting}
use Rattle.fills.specs.declared.fill.LegFill.{LegFill}
use Rattle.fills.specs.Fills.{taken_side, level_of, used_level, lacking, leg_fill, past_limit}
use Rattle.fills.specs.Fillings.{Filling, filling_at, priced, filling}
use Rattle.fills.specs.FillingLaws.{IsFilling, ReachesNet}
use Rattle.fills.proofs.Fillings.{at_net, filled}
use Rattle.days.specs.State.{State, Line, tape_full, in_force, lookup}
use Rattle.days.specs.Works.{is_open, terms_in, line_for, matched, when_resting, working}
use Rattle.days.specs.Laws.{times_price, net_of, taken_from, FirstShows, LegsTake, filled_terms, turned_terms}
use Rattle.orders.proofs.Checked.{err_ok, check_ok, map_ok_lem, same_ok, some_none, same_some}

-- How far an order gets

-- refused before prevention is judged
abbrev pub Low : {A : Type 0} → Result A GateFault → Type 0
Low r = (f : GateFault) × (r ≡ Err f) × (number_of f < 34)

reach_cases : (lack : Option ℕ) (shown : Option ℤ) (past : ℤ → Bool) (next : ℤ → Result Filling GateFault)
    → Low (check_at lack gate.NoMarket (priced shown (λ net. check (not (past net)) gate.Limit (next net)))) ⊎ ((net : ℤ) × (lack ≡ None) × (shown ≡ Some net) × (past net ≡ false))
reach_cases (Some k) shown past next = inl (gate.NoMarket k, refl, lit< tt)
reach_cases None None past next = inl (gate.NoMarket 0, refl, lit< tt)
reach_cases None (Some net) past next =
    ⊎_elim
    (λ t. inl (gate.Limit, ap (λ p. check (not p) gate.Limit (next net)) t, lit< tt))
    (λ f. inr (net, refl, refl, f))
    (cases_Bool (past net))

pub quoted_cases : (b : Levels) (o : Terms) (remaining : ℕ) (buffers : Buffers) → Low (filling b o remaining buffers) ⊎ ((net : ℤ) × ReachesNet b o net)
quoted_cases b o remaining buffers =
    let q : QuoteSide = taken_side o.side in
    ⊎_elim inl
    (λ r. inr (r.0, record { enough = r.1; price = r.2; inside = r.3 }))
    (reach_cases (lacking b q o.legs) (net_side b o.legs q) (λ net. past_limit o.side net o.limit) (λ net. check (not (prevented_of o.class o.width o.side net buffers)) gate.Prevented (Ok (filling_at b o remaining net))))

open_cases : (opened : Bool) (v : Option Resting) (full : Bool) (next : Resting → Result Line GateFault)
    → Low (check opened gate.Phase (when_resting v (λ o. check (not full) gate.TapeFull (next o)))) ⊎ ((o : Resting) × (v ≡ Some o) × (check opened gate.Phase (when_resting v (λ o. check (not full) gate.TapeFull (next o))) ≡ next o))
open_cases false v full next = inl (gate.Phase, refl, lit< tt)
open_cases true None full next = inl (gate.NotResting, refl, lit< tt)
open_cases true (Some o) true next = inl (gate.TapeFull, refl, lit< tt)
open_cases true (Some o) false next = inr (o, refl, refl)

pub work_cases : (s : State) (m : Levels) (z : ℤ) → Low (working s m z) ⊎ ((o : Resting) × (lookup s.order z ≡ Some o) × (working s m z ≡ matched s m o))
work_cases s m z = open_cases (is_open s.phase) (lookup s.order z) (tape_full s) (matched s m)

-- A line that an order draws

pub record Match (s : State) (m : Levels) (o : Resting) (f : Line) : Type 0 where
  pub fill : Filling
  pub line : f ≡ line_for o (length s.notices) fill
  pub filled : IsFilling m (terms_in o) o.remaining fill
  pub allows : prevented_of o.class o.width o.side fill.net (in_force s.notices) ≡ false

not-prevented : (s : State) (m : Levels) (o : Resting) (x : Filling) → filling m (terms_in o) o.remaining (in_force s.notices) ≡ Ok x → prevented_of o.class o.width o.side x.net (in_force s.notices) ≡ false
not-prevented s m o x e =
    let stops : ℤ → Bool = λ net. prevented_of o.class o.width o.side net (in_force s.notices) in
    ⊎_elim
    (λ l. absurd (err_ok l.0 x (sym l.1 ∙ e)))
    (λ r.
    let at : Filling = filling_at m (terms_in o) o.remaining r.0 in
    let c = check_ok (not (stops r.0)) gate.Prevented (Ok at) x (sym (at_net m (terms_in o) o.remaining (in_force s.notices) r.0 r.1) ∙ e) in
    ap (λ (y : Filling). stops y.net) (sym (same_ok at x c.1)) ∙ not-true (stops r.0) c.0)
    (quoted_cases m (terms_in o) o.remaining (in_force s.notices))

pub match_ok : (s : State) (m : Levels) (o : Resting) (f : Line) → sound o.legs ≡ true → matched s m o ≡ Ok f → Match s m o f
match_ok s m o f fit e =
    let bs : Buffers = in_force s.notices in
    let r = map_ok_lem (line_for o (length s.notices)) (filling m (terms_in o) o.remaining bs) f e in
    record { fill = r.0; line = r.2; filled = filled m (terms_in o) o.remaining bs fit (Ok r.0) (sym r.1); allows = not-prevented s m o r.0 r.1 }

-- Takes

-- in the market m the leg's first level has the price that it had in m₀, and enough for u units
abbrev Shown : Levels → Levels → QuoteSide → ℕ → TradedLeg → Type 0
Shown m₀ m q u g = FirstShows (m g.series (used_side g.side q)) (used_level m₀ q g).price (g.ratio * u)

first_shows : (ls : List Level) (n : ℕ) → can_take ls n ≡ true → FirstShows ls (level_of (best_of ls)).price n
first_shows [] n e = let z : ◌≡◌ {A = ℕ} 0 1 = cc in omega arith
first_shows (v ∷ vs) n e = let p = and_parts (ltb 0 n) (leb n v.size) e in (refl, ltb-true 0 n p.0, leb-true n v.size p.1)

all_shown : (m : Levels) (q : QuoteSide) (u : ℕ) (gs : List TradedLeg) → all_ready m q u gs ≡ true → AllByRecursion (Shown m m q u) gs
all_shown m q u [] e = tt
all_shown m q u (g ∷ gs) e =
    let p = and_parts (leg_ready m q u g) (all_ready m q u gs) e in
    (first_shows (m g.series (used_side g.side q)) (g.ratio * u) p.0, all_shown m q u gs p.1)

shows_some : (ls : List Level) (price n : ℕ) → FirstShows ls price n → 0 < n
shows_some [] price n h = absurd h
shows_some (v ∷ vs) price n h = h.1

abs_of : (s : Side) (r : ℕ) → nat_abs (signed s r) ≡ r
abs_of Buy r = refl
abs_of Sell zero = refl
abs_of Sell (suc r) = refl

from_is : (side s : Side) (r u : ℕ) → 0 < r * u → taken_from side (signed s r) ≡ used_side s (taken_side side)
from_is Buy Buy r u h = refl
from_is Sell Buy r u h = refl
from_is Buy Sell zero u h = absurd (omega (arith, zero-mul u))
from_is Sell Sell zero u h = absurd (omega (arith, zero-mul u))
from_is Buy Sell (suc r) u h = refl
from_is Sell Sell (suc r) u h = refl

still_shown : (m₀ m : Levels) (q : QuoteSide) (u : ℕ) (g : TradedLeg) (gs : List TradedLeg) → AllByRecursion (λ x. x.series ≡ g.series → ⊥) gs → AllByRecursion (Shown m₀ m q u) gs → AllByRecursion (Shown m₀ (leg_taken m q u g) q u) gs
still_shown m₀ m q u g [] d h = tt
still_shown m₀ m q u g (x ∷ xs) d h =
    let same = other_series m g.series x.series (used_side g.side q) (used_side x.side q) (g.ratio * u) d.0 in
    (subst (λ ls. FirstShows ls (used_level m₀ q x).price (x.ratio * u)) (sym same) h.0, still_shown m₀ m q u g xs d.1 h.1)

leg_takes : (m : Levels) (side : Side) (u : ℕ) (g : TradedLeg) (price : ℕ) (rest : List LegFill) (m' : Levels) → FirstShows (m g.series (used_side g.side (taken_side side))) price (g.ratio * u) → LegsTake (leg_taken m (taken_side side) u g) side u rest m' → LegsTake m side u (record { series = g.series; ratio = signed g.side g.ratio; price = price } ∷ rest) m'
leg_takes m side u g price rest m' h k =
    let v : QuoteSide = used_side g.side (taken_side side) in
    let P : QuoteSide → ℕ → Type 0 = λ v n. FirstShows (m g.series v) price (n * u) × LegsTake (taken_at m g.series v (n * u)) side u rest m' in
    subst (λ w. P w (nat_abs (signed g.side g.ratio))) (sym (from_is side g.side g.ratio u (shows_some (m g.series v) price (g.ratio * u) h)))
    (subst (P v) (sym (abs_of g.side g.ratio)) (h, k))

legs_take : (m₀ m : Levels) (side : Side) (u : ℕ) (gs : List TradedLeg) → Distinct gs → AllByRecursion (Shown m₀ m (taken_side side) u) gs → LegsTake m side u (map (leg_fill m₀ (taken_side side)) gs) (legs_taken m (taken_side side) u gs)
legs_take m₀ m side u [] d h = refl
legs_take m₀ m side u (g ∷ gs) d h =
    let q : QuoteSide = taken_side side in
    leg_takes m side u g (used_level m₀ q g).price (map (leg_fill m₀ q) gs) (legs_taken (leg_taken m q u g) q u gs) h.0
    (legs_take m₀ (leg_taken m q u g) side u gs d.1 (still_shown m₀ m q u g gs d.0 h.1))

pub fill_takes : (m : Levels) (o : Terms) (remaining : ℕ) (f : Filling) → 0 < remaining → IsFilling m o remaining f → LegsTake m o.side f.units f.legs (legs_taken m (taken_side o.side) f.units o.legs)
fill_takes m o remaining f some k =
    let q : QuoteSide = taken_side o.side in
    let both = and_parts (distinct o.legs) (all_ready m q f.units o.legs) (k.takeable (k.some some)) in
    subst (λ ls. LegsTake m o.side f.units ls (legs_taken m q f.units o.legs)) (sym k.legs)
    (legs_take m m o.side f.units o.legs (true_distinct o.legs both.0) (all_shown m q f.units o.legs both.1))

-- The net price

times_signed : (s : Side) (r p : ℕ) → signed s (r * p) ≡ times_price (signed s r) p
times_signed Buy r p = refl
times_signed Sell zero p = rw (zero-mul p)
times_signed Sell (suc r) p = refl

plus_some : (a b : Option ℤ) (c : ℤ) → plus a b ≡ Some c → (x : ℤ) × (y : ℤ) × (a ≡ Some x) × (b ≡ Some y) × (c ≡ x +ℤ y)
plus_some None b c e = absurd (some_none c (sym e))
plus_some (Some x) None c e = absurd (some_none c (sym e))
plus_some (Some x) (Some y) c e = (x, y, refl, refl, sym (same_some (x +ℤ y) c e))

part_some : (g : TradedLeg) (best : Option Level) (x : ℤ) → part_of g best ≡ Some x → x ≡ signed g.side (g.ratio * (level_of best).price)
part_some g None x e = absurd (some_none x (sym e))
part_some g (Some best) x e = sym (same_some (signed g.side (g.ratio * best.price)) x e)

pub net_is : (m : Levels) (q : QuoteSide) (gs : List TradedLeg) (net : ℤ) → net_side m gs q ≡ Some net → net ≡ net_of (map (leg_fill m q) gs)
net_is m q [] net e = sym (same_some (pos 0) net e)
net_is m q (g ∷ gs) net e =
    let price : ℕ = (used_level m q g).price in
    let parts = plus_some (leg_part m q g) (net_side m gs q) net e in
    let head = part_some g (best_of (m g.series (used_side g.side q))) parts.0 parts.2 ∙ times_signed g.side g.ratio price in
    let tail = net_is m q gs parts.1 parts.3 in
    parts.4 ∙ ap (λ x. x +ℤ parts.1) head ∙ ap (λ y. times_price (signed g.side g.ratio) price +ℤ y) tail

pub terms_are : (m : Levels) (q : QuoteSide) (turned : Bool) (gs : List TradedLeg) → map filled_terms (map (leg_fill m q) (map (turned_leg turned) gs)) ≡ map (turned_terms turned) gs
terms_are m q turned [] = refl
terms_are m q turned (g ∷ gs) = ap (λ x. turned_terms turned g ∷ x) (terms_are m q turned gs)
