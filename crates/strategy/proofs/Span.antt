-- The strikes, the kind and the expiry of a long form can be read off its legs, in whatever order they stand.
use Rattle.std.proofs.Common.{◌≡◌, ℕ, ◌+◌, ◌-◌, ◌/◌, ◌<◌, ◌≤◌, min, max, List, [], ◌∷◌, refl, arith}
use Rattle.std.specs.List.{AllByRecursion}
use Rattle.strategy.specs.declared.leg.Kind.{Kind}
use Rattle.strategy.specs.declared.leg.Kind.TheVariants.{Call, Put}
use Rattle.strategy.specs.declared.leg.Leg.{Leg}
use Rattle.strategy.specs.Reordering.{Reordered}
use Rattle.strategy.specs.Forms.{vertical, calendar, butterfly, box, IsVertical, IsCalendar, IsButterfly, IsBox}
use Rattle.strategy.proofs.Reorder.{all_from, all_to}

-- the leg has that underlying and expiry, and a strike from `low` to `high`
pub record Within (u e low high : ℕ) (l : Leg) : Type 0 where
  pub underlying : l.series.underlying ≡ u
  pub expiry : l.series.expiry ≡ e
  pub above : low ≤ l.series.strike
  pub below : l.series.strike ≤ high

-- `low` and `high` are the ends of what the legs have at f
pub record Reached (f : Leg → ℕ) (legs : List Leg) (low high : ℕ) : Type 0 where
  pub lowest : (m : ℕ) → AllByRecursion (λ l. m ≤ f l) legs → m ≤ low
  pub highest : (m : ℕ) → AllByRecursion (λ l. f l ≤ m) legs → high ≤ m

pub reached_from : (f : Leg → ℕ) (legs form : List Leg) (low high : ℕ) → Reordered legs form → Reached f form low high → Reached f legs low high
reached_from f legs form low high r h =
    record {
      lowest = λ m a. h.lowest m (all_to (λ l. m ≤ f l) legs form r a);
      highest = λ m a. h.highest m (all_to (λ l. f l ≤ m) legs form r a);
    }

abbrev pub strike_of : Leg → ℕ
strike_of l = l.series.strike

abbrev expiry_of : Leg → ℕ
expiry_of l = l.series.expiry

module _ (u low high e : ℕ) where
  leg_within : (l : Leg) → l.series.underlying ≡ u → l.series.expiry ≡ e → low ≤ l.series.strike → l.series.strike ≤ high → Within u e low high l
  leg_within l p q h k = record { underlying = p; expiry = q; above = h; below = k }

  pub vertical_within : (k : Kind) → low ≤ high → AllByRecursion (Within u e low high) (vertical u k low high e)
  vertical_within Call h =
      (leg_within _ refl refl (omega arith) (omega arith), (leg_within _ refl refl (omega arith) (omega arith), tt))
  vertical_within Put h =
      (leg_within _ refl refl (omega arith) (omega arith), (leg_within _ refl refl (omega arith) (omega arith), tt))

  vertical_kind : (k : Kind) → AllByRecursion (λ l. l.series.kind ≡ k) (vertical u k low high e)
  vertical_kind Call = (refl, (refl, tt))
  vertical_kind Put = (refl, (refl, tt))

  pub vertical_reached : (k : Kind) → Reached strike_of (vertical u k low high e) low high
  vertical_reached Call = record { lowest = λ m h. h.0; highest = λ m h. h.1.0 }
  vertical_reached Put = record { lowest = λ m h. h.1.0; highest = λ m h. h.0 }

  pub butterfly_within : (k : Kind) (middle : ℕ) → low ≤ middle → middle ≤ high → AllByRecursion (Within u e low high) (butterfly u k low middle high e)
  butterfly_within k middle p q =
      (leg_within _ refl refl (omega arith) (omega arith), (leg_within _ refl refl (omega arith) (omega arith), (leg_within _ refl refl (omega arith) (omega arith), tt)))

  butterfly_kind : (k : Kind) (middle : ℕ) → AllByRecursion (λ l. l.series.kind ≡ k) (butterfly u k low middle high e)
  butterfly_kind k middle = (refl, (refl, (refl, tt)))

  pub butterfly_reached : (k : Kind) (middle : ℕ) → Reached strike_of (butterfly u k low middle high e) low high
  butterfly_reached k middle = record { lowest = λ m h. h.0; highest = λ m h. h.1.1.0 }

  pub box_within : low ≤ high → AllByRecursion (Within u e low high) (box u low high e)
  box_within h = (
    leg_within _ refl refl (omega arith) (omega arith),
    (
      leg_within _ refl refl (omega arith) (omega arith),
      (leg_within _ refl refl (omega arith) (omega arith), (leg_within _ refl refl (omega arith) (omega arith), tt)),
    ),
  )

  pub box_reached : Reached strike_of (box u low high e) low high
  box_reached = record { lowest = λ m h. h.0; highest = λ m h. h.1.1.0 }

-- the leg has that underlying, kind and strike, and an expiry from `near` to `later`
pub record Dated (u : ℕ) (k : Kind) (strike near later : ℕ) (l : Leg) : Type 0 where
  pub underlying : l.series.underlying ≡ u
  pub kind : l.series.kind ≡ k
  pub at : l.series.strike ≡ strike
  pub above : near ≤ l.series.expiry
  pub below : l.series.expiry ≤ later

module _ (u : ℕ) (k : Kind) (strike near later : ℕ) where
  pub calendar_dated : near ≤ later → AllByRecursion (Dated u k strike near later) (calendar u k strike near later)
  calendar_dated h = (
    record { underlying = refl; kind = refl; at = refl; above = omega arith; below = omega arith },
    (record { underlying = refl; kind = refl; at = refl; above = omega arith; below = omega arith }, tt),
  )

  calendar_reached : Reached expiry_of (calendar u k strike near later) near later
  calendar_reached = record { lowest = λ m h. h.1.0; highest = λ m h. h.0 }

pub vertical_read : (a b : Leg) (w : ℕ) → IsVertical w (a ∷ b ∷ []) → (low high : ℕ) → low ≡ min a.series.strike b.series.strike → high ≡ max a.series.strike b.series.strike → (low < high) × Reordered (a ∷ b ∷ []) (vertical a.series.underlying a.series.kind low high a.series.expiry)
vertical_read a b w v low high is-low is-high =
    let legs : List Leg = a ∷ b ∷ [] in
    let form : List Leg = vertical v.u v.k v.low v.high v.e in
    let each : AllByRecursion (Within v.u v.e v.low v.high) legs = all_from (Within v.u v.e v.low v.high) legs form v.legs_are (vertical_within v.u v.low v.high v.e v.k (omega arith)) in
    let kinds : AllByRecursion (λ l. l.series.kind ≡ v.k) legs = all_from (λ l. l.series.kind ≡ v.k) legs form v.legs_are (vertical_kind v.u v.low v.high v.e v.k) in
    let ends : Reached strike_of legs v.low v.high = reached_from strike_of legs form v.low v.high v.legs_are (vertical_reached v.u v.low v.high v.e v.k) in
    let lo : low ≤ v.low = ends.lowest low (omega arith, (omega arith, tt)) in
    let hi : v.high ≤ high = ends.highest high (omega arith, (omega arith, tt)) in
    let el : v.low ≡ low = omega arith in
    let eh : v.high ≡ high = omega arith in
    (omega arith, rw (← each.0.underlying, ← each.0.expiry, ← kinds.0, el, eh) at v.legs_are)

pub calendar_read : (a b : Leg) → IsCalendar 0 (a ∷ b ∷ []) → (near later : ℕ) → near ≡ min a.series.expiry b.series.expiry → later ≡ max a.series.expiry b.series.expiry → (near < later) × Reordered (a ∷ b ∷ []) (calendar a.series.underlying a.series.kind a.series.strike near later)
calendar_read a b v near later is-near is_later =
    let legs : List Leg = a ∷ b ∷ [] in
    let form : List Leg = calendar v.u v.k v.strike v.near v.later in
    let each : AllByRecursion (Dated v.u v.k v.strike v.near v.later) legs = all_from (Dated v.u v.k v.strike v.near v.later) legs form v.legs_are (calendar_dated v.u v.k v.strike v.near v.later (omega arith)) in
    let ends : Reached expiry_of legs v.near v.later = reached_from expiry_of legs form v.near v.later v.legs_are (calendar_reached v.u v.k v.strike v.near v.later) in
    let lo : near ≤ v.near = ends.lowest near (omega arith, (omega arith, tt)) in
    let hi : v.later ≤ later = ends.highest later (omega arith, (omega arith, tt)) in
    let el : v.near ≡ near = omega arith in
    let eh : v.later ≡ later = omega arith in
    (omega arith, rw (← each.0.underlying, ← each.0.kind, ← each.0.at, el, eh) at v.legs_are)

pub record ButterflyRead (a b c : Leg) (low middle high width : ℕ) : Type 0 where
  pub wide : 0 < width
  pub above : middle + width ≡ high
  pub legs_are : Reordered (a ∷ b ∷ c ∷ []) (butterfly a.series.underlying a.series.kind low middle high a.series.expiry)

pub butterfly_read : (a b c : Leg) (w : ℕ) → IsButterfly w (a ∷ b ∷ c ∷ []) → (low high width middle : ℕ) → low ≡ min (min a.series.strike b.series.strike) c.series.strike → high ≡ max (max a.series.strike b.series.strike) c.series.strike → width ≡ (high - low) / 2 → middle ≡ low + width → ButterflyRead a b c low middle high width
butterfly_read a b c w v low high width middle is-low is-high is-width is-middle =
    let legs : List Leg = a ∷ b ∷ c ∷ [] in
    let form : List Leg = butterfly v.u v.k v.low v.middle v.high v.e in
    let each : AllByRecursion (Within v.u v.e v.low v.high) legs = all_from (Within v.u v.e v.low v.high) legs form v.legs_are (butterfly_within v.u v.low v.high v.e v.k v.middle (omega arith) (omega arith)) in
    let kinds : AllByRecursion (λ l. l.series.kind ≡ v.k) legs = all_from (λ l. l.series.kind ≡ v.k) legs form v.legs_are (butterfly_kind v.u v.low v.high v.e v.k v.middle) in
    let ends : Reached strike_of legs v.low v.high = reached_from strike_of legs form v.low v.high v.legs_are (butterfly_reached v.u v.low v.high v.e v.k v.middle) in
    let lo : low ≤ v.low = ends.lowest low (omega arith, (omega arith, (omega arith, tt))) in
    let hi : v.high ≤ high = ends.highest high (omega arith, (omega arith, (omega arith, tt))) in
    let el : v.low ≡ low = omega arith in
    let eh : v.high ≡ high = omega arith in
    let em : v.middle ≡ middle = omega arith in
    record { wide = omega arith; above = omega arith; legs_are = rw (← each.0.underlying, ← each.0.expiry, ← kinds.0, el, em, eh) at v.legs_are }

pub box_read : (a b c d : Leg) (w : ℕ) → IsBox w (a ∷ b ∷ c ∷ d ∷ []) → (low high : ℕ) → low ≡ min (min (min a.series.strike b.series.strike) c.series.strike) d.series.strike → high ≡ max (max (max a.series.strike b.series.strike) c.series.strike) d.series.strike → (low < high) × Reordered (a ∷ b ∷ c ∷ d ∷ []) (box a.series.underlying low high a.series.expiry)
box_read a b c d w v low high is-low is-high =
    let legs : List Leg = a ∷ b ∷ c ∷ d ∷ [] in
    let form : List Leg = box v.u v.low v.high v.e in
    let each : AllByRecursion (Within v.u v.e v.low v.high) legs = all_from (Within v.u v.e v.low v.high) legs form v.legs_are (box_within v.u v.low v.high v.e (omega arith)) in
    let ends : Reached strike_of legs v.low v.high = reached_from strike_of legs form v.low v.high v.legs_are (box_reached v.u v.low v.high v.e) in
    let lo : low ≤ v.low = ends.lowest low (omega arith, (omega arith, (omega arith, (omega arith, tt)))) in
    let hi : v.high ≤ high = ends.highest high (omega arith, (omega arith, (omega arith, (omega arith, tt)))) in
    let el : v.low ≡ low = omega arith in
    let eh : v.high ≡ high = omega arith in
    (omega arith, rw (← each.0.underlying, ← each.0.expiry, el, eh) at v.legs_are)
