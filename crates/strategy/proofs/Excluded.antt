-- The number of legs of each long form, and when legs are none of them.
use Rattle.std.proofs.Common.{◌≡◌, ℕ, ◌<◌, ◌≤◌, Bool, true, false, ◌⊎◌, List, length, Some, None, Option, refl, ⊎_elim, arith, lit≤}
use Rattle.std.specs.Bool.{Decides, then_some}
use Rattle.std.specs.Option.{option_map}
use Rattle.std.proofs.lemmas.Bool.{false≢true}
use Rattle.strategy.specs.declared.leg.Kind.{Kind}
use Rattle.strategy.specs.declared.leg.Kind.TheVariants.{Call, Put}
use Rattle.strategy.specs.declared.leg.Leg.{Leg}
use Rattle.strategy.specs.declared.class.Class.{Class}
use Rattle.strategy.specs.declared.class.Class.TheVariants.{Bought, Vertical, Calendar, Butterfly, BoxSpread, Other}
use Rattle.strategy.specs.Forms.{vertical, calendar, butterfly, box, IsBought, IsVertical, IsCalendar, IsButterfly, IsBox, Long, Finds, Formed}
use Rattle.strategy.proofs.Reorder.{length_reordered}

two_strikes : (u : ℕ) (k : Kind) (low high e : ℕ) → length (vertical u k low high e) ≡ 2
two_strikes u Call low high e = refl
two_strikes u Put low high e = refl

module _ (w : ℕ) (legs : List Leg) where
  pub length-vertical : IsVertical w legs → length legs ≡ 2
  length-vertical v =
      omega (arith, length_reordered legs (vertical v.u v.k v.low v.high v.e) v.legs_are, two_strikes v.u v.k v.low v.high v.e)

  pub length-calendar : IsCalendar w legs → length legs ≡ 2
  length-calendar v = length_reordered legs (calendar v.u v.k v.strike v.near v.later) v.legs_are

  pub length-butterfly : IsButterfly w legs → length legs ≡ 3
  length-butterfly v = length_reordered legs (butterfly v.u v.k v.low v.middle v.high v.e) v.legs_are

  pub length-box : IsBox w legs → length legs ≡ 4
  length-box v = length_reordered legs (box v.u v.low v.high v.e) v.legs_are

flat_bought : (legs : List Leg) (w : ℕ) → IsBought w legs → IsBought 0 legs
flat_bought legs w v = record { some = v.some; all = v.all; flat = refl }

flat_calendar : (legs : List Leg) (w : ℕ) → IsCalendar w legs → IsCalendar 0 legs
flat_calendar legs w v = record { u = v.u; k = v.k; strike = v.strike; near = v.near; later = v.later; apart = v.apart; flat = refl; legs_are = v.legs_are }

-- legs that are no long form
pub record NoneOf (legs : List Leg) : Type 0 where
  pub bought : IsBought 0 legs → ⊥
  pub vertical : (w : ℕ) → IsVertical w legs → ⊥
  pub calendar : IsCalendar 0 legs → ⊥
  pub butterfly : (w : ℕ) → IsButterfly w legs → ⊥
  pub box : (w : ℕ) → IsBox w legs → ⊥

pub excluded : (legs : List Leg) → NoneOf legs → (c : Class) (w : ℕ) → Long c w legs → ⊥
excluded legs n Bought w v = n.bought (flat_bought legs w v)
excluded legs n Vertical w v = n.vertical w v
excluded legs n Calendar w v = n.calendar (flat_calendar legs w v)
excluded legs n Butterfly w v = n.butterfly w v
excluded legs n BoxSpread w v = n.box w v
excluded legs n Other w v = v

-- the form that legs are, where only one class has a width
pub one_class : (legs : List Leg) (c : Class) (o : Option ℕ) → Finds o (λ w. Long c w legs) → (((w : ℕ) → Long c w legs → ⊥) → NoneOf legs) → Formed legs (option_map (λ w. record { class = c; width = w }) o)
one_class legs c None found none = excluded legs (none found)
one_class legs c (Some w) found none = found

-- the same of a class without a width
pub flat_class : (legs : List Leg) (c : Class) (b : Bool) → Decides b (Long c 0 legs) → ((Long c 0 legs → ⊥) → NoneOf legs) → Formed legs (then_some b (record { class = c; width = 0 }))
flat_class legs c false is none = excluded legs (none (λ l. false≢true (is.1 l)))
flat_class legs c true is none = is.0 refl

-- legs too few or too many for any form but all bought
pub other_count : (legs : List Leg) → (IsBought 0 legs → ⊥) → (length legs < 2) ⊎ (4 < length legs) → (c : Class) (w : ℕ) → Long c w legs → ⊥
other_count legs b n =
    let no : (k : ℕ) → length legs ≡ k → 2 ≤ k → k ≤ 4 → ⊥ = λ k e p q. ⊎_elim (λ h. omega arith) (λ h. omega arith) n in
    excluded legs record {
      bought = b;
      vertical = λ w v. no 2 (length-vertical w legs v) (lit≤ tt) (lit≤ tt);
      calendar = λ v. no 2 (length-calendar 0 legs v) (lit≤ tt) (lit≤ tt);
      butterfly = λ w v. no 3 (length-butterfly w legs v) (lit≤ tt) (lit≤ tt);
      box = λ w v. no 4 (length-box w legs v) (lit≤ tt) (lit≤ tt);
    }
