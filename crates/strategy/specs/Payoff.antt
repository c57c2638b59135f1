-- What a strategy pays at a settlement price, in cents, and its closing values.
use Rattle.std.specs.Prelude.{◌≡◌, ℕ, ◌-◌, ◌*◌, ◌⊎◌, List, [], ◌∷◌, ℤ, pos, ◌+ℤ◌, neg_ℤ}
use Rattle.strategy.specs.declared.leg.Kind.{Kind}
use Rattle.strategy.specs.declared.leg.Kind.TheVariants.{Call, Put}
use Rattle.strategy.specs.declared.leg.Side.{Side}
use Rattle.strategy.specs.declared.leg.Side.TheVariants.{Buy, Sell}
use Rattle.strategy.specs.declared.leg.Leg.{Leg}

-- a call pays settlement less strike, a put strike less settlement, and neither less than 0: `-` stops at 0
abbrev pub paid : Kind → ℕ → ℕ → ℕ
paid Call strike settlement = settlement - strike
paid Put strike settlement = strike - settlement

abbrev pub leg_paid : ℕ → Leg → ℕ
leg_paid settlement l = l.ratio * paid l.series.kind l.series.strike settlement

-- an amount that is added for a bought leg and subtracted for a sold one
abbrev pub signed : Side → ℕ → ℤ
signed Buy n = pos n
signed Sell n = neg_ℤ (pos n)

-- the sum of an amount over the legs, sold legs subtracted
abbrev pub signed_sum : (Leg → ℕ) → List Leg → ℤ
signed_sum f [] = pos 0
signed_sum f (l ∷ ls) = signed l.side (f l) +ℤ signed_sum f ls

abbrev pub payoff : List Leg → ℕ → ℤ
payoff legs settlement = signed_sum (leg_paid settlement) legs

-- zero, and what the legs pay at any one settlement price
abbrev pub ClosingValue : List Leg → ℤ → Type 0
ClosingValue legs v = (v ≡ pos 0) ⊎ ((settlement : ℕ) × (v ≡ payoff legs settlement))
