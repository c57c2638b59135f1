-- What a market is: for each series and side a list of levels, the best first.
use Rattle.std.specs.Prelude.{ℕ, ◌-◌, ◌≤◌, Bool, false, cond, ◌&&◌, List, [], ◌∷◌, Some, None, Ok, Err, Option, Result, ◌==◌, nat_le, nat_lt}
use Rattle.market.specs.declared.quote.QuoteSide.{QuoteSide}
use Rattle.market.specs.declared.quote.QuoteSide.TheVariants.{Bid, Offer}
use Rattle.market.specs.declared.quote.Level.{Level}
use Rattle.market.specs.declared.quote.MarketFault.{MarketFault}
use Rattle.market.specs.declared.quote.MarketFault.TheVariants.{Take}
use Rattle.market.specs.Sides.{same_side}

abbrev pub Levels : Type 0
Levels = ℕ → QuoteSide → List Level

abbrev pub no_levels : Levels
no_levels = λ k s. []

-- a price of 1 to 65534 and a size of 1 to 1,000,000
abbrev pub InRange : Level → Type 0
InRange l = (1 ≤ l.price) × (l.price ≤ 65534) × (1 ≤ l.size) × (l.size ≤ 1000000)

-- a bid at least as high, an offer at least as low
abbrev pub NotWorse : QuoteSide → ℕ → ℕ → Type 0
NotWorse Bid a b = b ≤ a
NotWorse Offer a b = a ≤ b

-- each level in range and not worse than the next
abbrev pub Ranked : QuoteSide → List Level → Type 0
Ranked s [] = Unit {0}
Ranked s (l ∷ []) = InRange l
Ranked s (l ∷ (m ∷ ms)) = InRange l × NotWorse s l.price m.price × Ranked s (m ∷ ms)

-- the first level
abbrev pub best_of : List Level → Option Level
best_of [] = None
best_of (l ∷ ls) = Some l

-- whether n contracts can be taken from the first level
abbrev pub can_take : List Level → ℕ → Bool
can_take [] n = false
can_take (l ∷ ls) n = nat_lt 0 n && nat_le n l.size

-- a level with n contracts less
abbrev pub less : Level → ℕ → Level
less l n = record { price = l.price; size = l.size - n }

-- the list with n contracts less in its first level; a level with none left leaves
abbrev pub less_first : List Level → ℕ → List Level
less_first [] n = []
less_first (l ∷ ls) n = cond (l.size == n) ls (less l n ∷ ls)

-- the list after a take, refused or not
abbrev pub taken : List Level → ℕ → List Level
taken ls n = cond (can_take ls n) (less_first ls n) ls

abbrev pub take_answer : List Level → ℕ → Result (Unit {0}) MarketFault
take_answer ls n = cond (can_take ls n) (Ok tt) (Err Take)

-- the market with the list ls in one series and side, and all else as it was
abbrev pub replaced : Levels → ℕ → QuoteSide → List Level → Levels
replaced b k s ls = λ j t. cond (j == k && same_side t s) ls (b j t)

-- the market after a take
abbrev pub taken_at : Levels → ℕ → QuoteSide → ℕ → Levels
taken_at b k s n = replaced b k s (taken (b k s) n)
