-- The class of legs that are written out.
use Rattle.std.proofs.Common.{◌≡◌, ℕ, ◌+◌, ◌<◌, Bool, true, false, List, [], ◌∷◌, map, refl, inl, inr, arith}
use Rattle.std.specs.List.{AllByRecursion}
use Rattle.strategy.specs.declared.leg.Kind.{Kind}
use Rattle.strategy.specs.declared.leg.Side.TheVariants.{Buy, Sell}
use Rattle.strategy.specs.declared.leg.Leg.{Leg}
use Rattle.strategy.specs.declared.class.Class.{Class}
use Rattle.strategy.specs.declared.class.Class.TheVariants.{Bought, Vertical, Calendar, Butterfly, BoxSpread, Other}
use Rattle.strategy.specs.Legs.{flipped, turned_legs}
use Rattle.strategy.specs.Reordering.{TakenOut, Reordered}
use Rattle.strategy.specs.Forms.{vertical, butterfly, box, Long, Classified}
use Rattle.strategy.proofs.Worth.{Worth, vertical_worth, calendar_worth, butterfly_worth, box_worth}
use Rattle.worked.specs.Words.{is}

in_order : (xs : List Leg) → Reordered xs xs
unfolding Reordered TakenOut
in_order [] = refl
in_order (x ∷ xs) = (xs, inl (refl, refl), in_order xs)

-- Long forms, from their lowest strike up

module _ (u low e w : ℕ) (wide : 0 < w) where
  pub vertical_form : (k : Kind) → Long Vertical w (vertical u k low (low + w) e)
  vertical_form k = record { u = u; k = k; low = low; high = low + w; e = e; wide = wide; apart = refl; legs_are = in_order (vertical u k low (low + w) e) }

  pub butterfly_form : (k : Kind) → Long Butterfly w (butterfly u k low (low + w) (low + w + w) e)
  butterfly_form k = record {
    u = u;
    k = k;
    low = low;
    middle = low + w;
    high = low + w + w;
    e = e;
    wide = wide;
    below = refl;
    above = refl;
    legs_are = in_order (butterfly u k low (low + w) (low + w + w) e);
  }

  pub box_form : Long BoxSpread w (box u low (low + w) e)
  box_form = record { u = u; low = low; high = low + w; e = e; wide = wide; apart = refl; legs_are = in_order (box u low (low + w) e) }

-- No long form

pub sell_buy : {A : Type 0} → Sell ≡ Buy → A
sell_buy e = absurd (let z : ◌≡◌ {A = ℕ} 0 1 = cc in omega arith)

-- not all bought, and not worth from 0 to a width
pub record Formless (legs : List Leg) : Type 0 where
  pub mixed : AllByRecursion (λ l. l.side ≡ Buy) legs → ⊥
  pub unbounded : (w : ℕ) → Worth legs w → ⊥

module _ (legs : List Leg) where
  no_form : Formless legs → (c : Class) (w : ℕ) → Long c w legs → ⊥
  no_form n Bought w v = n.mixed v.all
  no_form n Vertical w v = n.unbounded w (vertical_worth w legs v)
  no_form n Calendar w v = n.unbounded 0 (calendar_worth w legs v)
  no_form n Butterfly w v = n.unbounded w (butterfly_worth w legs v)
  no_form n BoxSpread w v = n.unbounded w (box_worth w legs v)
  no_form n Other w v = v

neither : (legs : List Leg) → Formless legs → Formless (map flipped legs) → (turned : Bool) (c : Class) (w : ℕ) → Long c w (turned_legs turned legs) → ⊥
neither legs n f false = no_form legs n
neither legs n f true = no_form (map flipped legs) f

pub other : (legs : List Leg) → Formless legs → Formless (map flipped legs) → Classified legs (is Other 0)
other legs n f = inr record { class_is = refl; width_is = refl; turned_is = refl; no_form = neither legs n f }
