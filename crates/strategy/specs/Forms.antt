-- The long forms of a strategy, for legs in any order.
use Rattle.std.specs.Prelude.{◌≡◌, ℕ, ◌+◌, ◌<◌, Bool, false, ◌⊎◌, List, [], ◌∷◌, length, Some, None, codes, Option}
use Rattle.std.specs.List.{AllByRecursion}
use Rattle.strategy.specs.declared.leg.Kind.{Kind}
use Rattle.strategy.specs.declared.leg.Kind.TheVariants.{Call, Put}
use Rattle.strategy.specs.declared.leg.Side.TheVariants.{Buy}
use Rattle.strategy.specs.declared.leg.Leg.{Leg}
use Rattle.strategy.specs.declared.class.Class.{Class}
use Rattle.strategy.specs.declared.class.Class.TheVariants.{Bought, Vertical, Calendar, Butterfly, BoxSpread, Other}
use Rattle.strategy.specs.declared.class.Form.{Form}
use Rattle.strategy.specs.declared.class.Strategy.{Strategy}
use Rattle.strategy.specs.Legs.{option, buy, sell, turned_legs}
use Rattle.strategy.specs.Reordering.{Reordered}

abbrev pub class_name : Class → List ℕ
class_name Bought = codes "bought"
class_name Vertical = codes "vertical"
class_name Calendar = codes "calendar"
class_name Butterfly = codes "butterfly"
class_name BoxSpread = codes "box"
class_name Other = codes "other"

-- of calls the lower strike is bought, of puts the higher
abbrev pub vertical : ℕ → Kind → ℕ → ℕ → ℕ → List Leg
vertical u Call low high e = buy 1 (option u Call low e) ∷ sell 1 (option u Call high e) ∷ []
vertical u Put low high e = buy 1 (option u Put high e) ∷ sell 1 (option u Put low e) ∷ []

-- the later expiry is bought
abbrev pub calendar : ℕ → Kind → ℕ → ℕ → ℕ → List Leg
calendar u k strike near later = buy 1 (option u k strike later) ∷ sell 1 (option u k strike near) ∷ []

-- the outer legs are bought, the middle is sold twice
abbrev pub butterfly : ℕ → Kind → ℕ → ℕ → ℕ → ℕ → List Leg
butterfly u k low middle high e =
    buy 1 (option u k low e) ∷ sell 2 (option u k middle e) ∷ buy 1 (option u k high e) ∷ []

-- at the lower strike the call is bought and the put sold, at the higher the reverse
abbrev pub box : ℕ → ℕ → ℕ → ℕ → List Leg
box u low high e =
    buy 1 (option u Call low e) ∷ sell 1 (option u Put low e)
    ∷ sell 1 (option u Call high e) ∷ buy 1 (option u Put high e) ∷ []

pub record IsBought (width : ℕ) (legs : List Leg) : Type 0 where
  pub some : 0 < length legs
  pub all : AllByRecursion (λ l. l.side ≡ Buy) legs
  pub flat : width ≡ 0

pub record IsVertical (width : ℕ) (legs : List Leg) : Type 0 where
  pub u : ℕ
  pub k : Kind
  pub low : ℕ
  pub high : ℕ
  pub e : ℕ
  pub wide : 0 < width
  pub apart : low + width ≡ high
  pub legs_are : Reordered legs (vertical u k low high e)

pub record IsCalendar (width : ℕ) (legs : List Leg) : Type 0 where
  pub u : ℕ
  pub k : Kind
  pub strike : ℕ
  pub near : ℕ
  pub later : ℕ
  pub apart : near < later
  pub flat : width ≡ 0
  pub legs_are : Reordered legs (calendar u k strike near later)

pub record IsButterfly (width : ℕ) (legs : List Leg) : Type 0 where
  pub u : ℕ
  pub k : Kind
  pub low : ℕ
  pub middle : ℕ
  pub high : ℕ
  pub e : ℕ
  pub wide : 0 < width
  pub below : low + width ≡ middle
  pub above : middle + width ≡ high
  pub legs_are : Reordered legs (butterfly u k low middle high e)

pub record IsBox (width : ℕ) (legs : List Leg) : Type 0 where
  pub u : ℕ
  pub low : ℕ
  pub high : ℕ
  pub e : ℕ
  pub wide : 0 < width
  pub apart : low + width ≡ high
  pub legs_are : Reordered legs (box u low high e)

-- The legs are a long form of the class; neighbouring strikes are `width` apart, 0 where the class has no width.
abbrev pub Long : Class → ℕ → List Leg → Type 0
Long Bought = IsBought
Long Vertical = IsVertical
Long Calendar = IsCalendar
Long Butterfly = IsButterfly
Long BoxSpread = IsBox
Long Other = λ _ _. ⊥

-- A number that fits, or none where no number does.
abbrev pub Finds : Option ℕ → (ℕ → Type 0) → Type 0
Finds None P = (n : ℕ) → P n → ⊥
Finds (Some n) P = P n

-- The long form that legs are, if they are one.
abbrev pub Formed : List Leg → Option Form → Type 0
Formed legs None = (c : Class) (w : ℕ) → Long c w legs → ⊥
Formed legs (Some f) = Long f.class f.width legs

pub record IsOther (legs : List Leg) (s : Strategy) : Type 0 where
  pub class_is : s.class ≡ Other
  pub width_is : s.width ≡ 0
  pub turned_is : s.turned ≡ false
  pub no_form : (turned : Bool) (c : Class) (w : ℕ) → Long c w (turned_legs turned legs) → ⊥

-- The class, width and turning of legs: turned or not, they are a long form of that class; else they are of class other, not turned,
-- and are a long form neither as they are nor flipped.
abbrev pub Classified : List Leg → Strategy → Type 0
Classified legs s = Long s.class s.width (turned_legs s.turned legs) ⊎ IsOther legs s
