-- Minimum and Maximum of a strategy, in cents, the verdicts on a price in turned terms, and their law.
use Rattle.std.specs.Prelude.{◌≡◌, ℕ, ◌*◌, ◌/◌, min, Bool, true, false, cond, List, ℤ, pos, ◌+ℤ◌, neg_ℤ, ◌<ℤ◌, Some, None, sum_by, Option, int_lt}
use Rattle.strategy.specs.declared.leg.Side.{Side}
use Rattle.strategy.specs.declared.leg.Side.TheVariants.{Buy, Sell}
use Rattle.strategy.specs.declared.leg.Leg.{Leg}
use Rattle.strategy.specs.declared.class.Class.{Class}
use Rattle.strategy.specs.declared.class.Class.TheVariants.{Bought, Vertical, Calendar, Butterfly, BoxSpread, Other}
use Rattle.strategy.specs.declared.price.Buffer.{Buffer}
use Rattle.strategy.specs.declared.price.Buffers.{Buffers}
use Rattle.strategy.specs.declared.price.Refusal.{Refusal}
use Rattle.strategy.specs.declared.price.Refusal.TheVariants.{BoughtBelowMinimum, BelowMinimum, AboveMaximum}
use Rattle.strategy.specs.Payoff.{ClosingValue}

-- the number of each refusal
abbrev pub refusal_number : Refusal → ℕ
refusal_number BoughtBelowMinimum = 25
refusal_number BelowMinimum = 26
refusal_number AboveMaximum = 27

-- the Maximum Value Buffer: the lesser of the absolute buffer and the percentage of the width, in hundredths of a percent, rounded down
abbrev pub maximum_buffer : Buffer → ℕ → ℕ
maximum_buffer b width = min b.absolute (width * b.percentage / 10000)

abbrev pub lowest : Buffer → ℤ
lowest b = neg_ℤ (pos b.minimum)

abbrev pub highest : Buffer → ℕ → ℤ
highest b width = pos width +ℤ pos (maximum_buffer b width)

-- the Minimum, but for all bought
abbrev pub lower_end : Class → Buffers → Option ℤ
lower_end Bought b = None
lower_end Vertical b = Some (lowest b.vertical)
lower_end Calendar b = Some (lowest b.vertical)
lower_end Butterfly b = Some (lowest b.butterfly)
lower_end BoxSpread b = Some (lowest b.boxes)
lower_end Other b = None

-- the Minimum: of all bought, a cent for each contract of a unit
abbrev pub minimum_of : Class → List Leg → Buffers → Option ℤ
minimum_of Bought legs b = Some (pos (sum_by (λ l. l.ratio) legs))
minimum_of Vertical legs b = lower_end Vertical b
minimum_of Calendar legs b = lower_end Calendar b
minimum_of Butterfly legs b = lower_end Butterfly b
minimum_of BoxSpread legs b = lower_end BoxSpread b
minimum_of Other legs b = lower_end Other b

abbrev pub maximum_of : Class → ℕ → Buffers → Option ℤ
maximum_of Bought width b = None
maximum_of Vertical width b = Some (highest b.vertical width)
maximum_of Calendar width b = None
maximum_of Butterfly width b = Some (highest b.butterfly width)
maximum_of BoxSpread width b = Some (highest b.boxes width)
maximum_of Other width b = None

-- a price below the Minimum, or above the Maximum, where there is one
abbrev pub below : ℤ → Option ℤ → Bool
below price None = false
below price (Some least) = int_lt price least

abbrev pub above : ℤ → Option ℤ → Bool
above price None = false
above price (Some most) = int_lt most price

-- turning negates the price
abbrev pub turned_price : Bool → ℤ → ℤ
turned_price true price = neg_ℤ price
turned_price false price = price

abbrev pub outside : ℤ → Option ℤ → Option ℤ → Option Refusal
outside price least most = cond (below price least) (Some BelowMinimum) (cond (above price most) (Some AboveMaximum) None)

-- The refusal of a limit by its class, side and bounds, in turned terms: of all bought only a buy below the Minimum is refused, of any other
-- class a limit below the Minimum or above the Maximum.
abbrev pub bounds_refusal : Class → Side → ℤ → Option ℤ → Option ℤ → Option Refusal
bounds_refusal Bought Buy limit least most = cond (below limit least) (Some BoughtBelowMinimum) None
bounds_refusal Bought Sell limit least most = None
bounds_refusal Vertical side limit least most = outside limit least most
bounds_refusal Calendar side limit least most = outside limit least most
bounds_refusal Butterfly side limit least most = outside limit least most
bounds_refusal BoxSpread side limit least most = outside limit least most
bounds_refusal Other side limit least most = outside limit least most

abbrev pub limit_refusal : Class → ℕ → List Leg → Side → ℤ → Buffers → Option Refusal
limit_refusal c width legs side limit b = bounds_refusal c side limit (minimum_of c legs b) (maximum_of c width b)

-- a buy above the upper bound, a sell below the lower
abbrev pub beyond : Side → ℤ → Option ℤ → Option ℤ → Bool
beyond Buy price least most = above price most
beyond Sell price least most = below price least

-- an execution is prevented: a buy above the Maximum, a sell below the Minimum, all bought excepted
abbrev pub prevented_of : Class → ℕ → Side → ℤ → Buffers → Bool
prevented_of c width side price b = beyond side price (lower_end c b) (maximum_of c width b)

-- Every closing value of the legs is above the price by more than the buffer, or below it by more than the buffer.
abbrev pub AllAbove : List Leg → ℤ → ℕ → Type 0
AllAbove legs price buffer = (v : ℤ) → ClosingValue legs v → (price +ℤ pos buffer) <ℤ v

abbrev pub AllBelow : List Leg → ℤ → ℕ → Type 0
AllBelow legs price buffer = (v : ℤ) → ClosingValue legs v → (v +ℤ pos buffer) <ℤ price

abbrev pub Exactly : Type 0 → Type 0 → Type 0
Exactly P Q = (P → Q) × (Q → P)

-- what is said of the classes with a lower and an upper end, by their buffers
abbrev pub ForBanded : Class → Buffers → (Buffer → Type 0) → Type 0
ForBanded Bought b P = Unit {0}
ForBanded Vertical b P = P b.vertical
ForBanded Calendar b P = Unit {0}
ForBanded Butterfly b P = P b.butterfly
ForBanded BoxSpread b P = P b.boxes
ForBanded Other b P = Unit {0}

-- A limit is refused as below the Minimum exactly when every closing value lies above it by more than the buffer, and as above the Maximum
-- exactly when every closing value lies below it by more than the buffer.
abbrev pub LimitLaw : Class → ℕ → List Leg → ℤ → Buffers → Option Refusal → Type 0
LimitLaw c width legs limit buffers refusal =
    ForBanded c buffers
    (λ b. Exactly (refusal ≡ Some BelowMinimum) (AllAbove legs limit b.minimum)
    × Exactly (refusal ≡ Some AboveMaximum) (AllBelow legs limit (maximum_buffer b width)))

-- A buy is prevented exactly when no closing value plus the buffer reaches its price, a sell when no closing value less the buffer is as low.
abbrev pub OutOfBand : Side → ℕ → List Leg → ℤ → Buffer → Type 0
OutOfBand Buy width legs price b = AllBelow legs price (maximum_buffer b width)
OutOfBand Sell width legs price b = AllAbove legs price b.minimum

abbrev pub PreventionLaw : Class → ℕ → List Leg → Side → ℤ → Buffers → Bool → Type 0
PreventionLaw c width legs side price buffers prevented =
    ForBanded c buffers (λ b. Exactly (prevented ≡ true) (OutOfBand side width legs price b))
