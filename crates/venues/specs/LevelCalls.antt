-- A level call: the size at one price of a series and side.
use Rattle.std.specs.Prelude.{◌≡◌, ℕ, cond, pos, is_ok, Some, None, Ok, Err, Option, Result, ◌==◌}
use Rattle.market.specs.declared.quote.QuoteSide.{QuoteSide}
use Rattle.market.specs.declared.quote.Level.{Level}
use Rattle.market.specs.declared.quote.MarketFault.{MarketFault}
use Rattle.market.specs.declared.quote.MarketFault.TheVariants.{Range, Series}
use Rattle.market.specs.declared.terms.LevelTerms.{LevelTerms}
use Rattle.market.specs.Sides.{opposite}
use Rattle.market.specs.Levels.{Levels, replaced}
use Rattle.venues.specs.Numbers.{within}
use Rattle.venues.specs.Sizes.{size_at, with_size, set_answer}

-- the series and the level of a call, or the refusal of lowest number
abbrev pub level_call_from : Option ℕ → Option ℕ → Option ℕ → Result (ℕ × Level) MarketFault
level_call_from None n k = Err Range
level_call_from (Some p) None k = Err Range
level_call_from (Some p) (Some n) None = Err Series
level_call_from (Some p) (Some n) (Some k) = Ok (k, record { price = p; size = n })

-- the numbers of a call in a market whose series are 0 to last
abbrev pub level_call : ℕ → LevelTerms → Result (ℕ × Level) MarketFault
level_call last x = level_call_from (within 1 65534 x.price) (within 0 1000000 x.size) (within 0 last x.series)

abbrev pub level_answer : Levels → QuoteSide → Result (ℕ × Level) MarketFault → Result (Unit {0}) MarketFault
level_answer b s (Err e) = Err e
level_answer b s (Ok c) = set_answer s c.1.price c.1.size (b c.0 s) (b c.0 (opposite s))

-- the market after a call: as it was if the call is refused, else one list changes
abbrev pub level_after : Levels → QuoteSide → Result (ℕ × Level) MarketFault → Levels
level_after b s (Err e) = b
level_after b s (Ok c) = cond (is_ok (set_answer s c.1.price c.1.size (b c.0 s) (b c.0 (opposite s)))) (replaced b c.0 s (with_size s c.1.price c.1.size (b c.0 s))) b

-- at every price of the series and side, the market a shows the size of the call if that price is the call's, and else what b showed
abbrev pub ShowsSize : Levels → Levels → LevelTerms → Type 0
ShowsSize b a x = (k p n q : ℕ) → x.series ≡ pos k → x.price ≡ pos p → x.size ≡ pos n → size_at (a k x.side) q ≡ cond (q == p) n (size_at (b k x.side) q)
