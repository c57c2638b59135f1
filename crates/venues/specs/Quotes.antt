-- Quotes: at most one level a side.
use Rattle.std.specs.Prelude.{ℕ, Bool, cond, ◌&&◌, ◌||◌, List, [], ◌∷◌, ℤ, Some, None, Ok, Err, Option, Result, ◌==◌, nat_le, nat_lt, slice_index_or}
use Rattle.market.specs.declared.quote.Level.{Level}
use Rattle.market.specs.declared.quote.TwoSided.{TwoSided}
use Rattle.market.specs.declared.quote.MarketFault.{MarketFault}
use Rattle.market.specs.declared.quote.MarketFault.TheVariants.{Range, Series, Crossed, Take}
use Rattle.market.specs.declared.terms.QuoteTerms.{QuoteTerms}
use Rattle.market.specs.Sides.{side_of}
use Rattle.market.specs.Levels.{Levels, less}
use Rattle.venues.specs.Ordered.{ok_level, apart}
use Rattle.venues.specs.Numbers.{within}

abbrev pub no_quote : TwoSided Level
no_quote = record { bid = None; offer = None }

-- whether both sides are in range and the bid is below the offer
abbrev pub sound : TwoSided Level → Bool
sound q = ok_level q.bid && (ok_level q.offer && apart q.bid q.offer)

-- no level or one, as a list
abbrev pub as_list : Option Level → List Level
as_list None = []
as_list (Some l) = l ∷ []

-- the levels of a table of quotes, by series
abbrev pub table_levels : List (TwoSided Level) → Levels
table_levels qs = λ k s. as_list (side_of (slice_index_or qs k no_quote) s)

-- a level by its price and size
abbrev pub sized : ℕ → Option ℕ → Result (Option Level) MarketFault
sized p None = Err Range
sized p (Some n) = Ok (Some (record { price = p; size = n }))

-- the price words 0 and 65535 mean no price, and then the size is disregarded
abbrev pub worded : Option ℕ → Option ℕ → Result (Option Level) MarketFault
worded None size = Err Range
worded (Some p) size = cond (p == 0 || p == 65535) (Ok None) (sized p size)

-- one side of a quote, from its two numbers
abbrev pub level_of : ℤ → ℤ → Result (Option Level) MarketFault
level_of price size = worded (within 0 65535 price) (within 1 1000000 size)

-- the series and the two sides of a quote, or the refusal of lowest number
abbrev pub quote_from : Option ℕ → Result (Option Level) MarketFault → Result (Option Level) MarketFault → Result (ℕ × TwoSided Level) MarketFault
quote_from series (Err e) offer = Err e
quote_from series (Ok b) (Err e) = Err e
quote_from None (Ok b) (Ok o) = Err Series
quote_from (Some k) (Ok b) (Ok o) = cond (apart b o) (Ok (k, record { bid = b; offer = o })) (Err Crossed)

-- the numbers of a quote in a market whose series are 0 to last
abbrev pub quote_of : ℕ → QuoteTerms → Result (ℕ × TwoSided Level) MarketFault
quote_of last x = quote_from (within 0 last x.series) (level_of x.bid_price x.bid_size) (level_of x.offer_price x.offer_size)

abbrev pub quote_answer : Result (ℕ × TwoSided Level) MarketFault → Result (Unit {0}) MarketFault
quote_answer (Ok p) = Ok tt
quote_answer (Err e) = Err e

-- the market with the quote q in series k, and all else as it was
abbrev pub quoted_at : Levels → ℕ → TwoSided Level → Levels
quoted_at b k q = λ j s. cond (j == k) (as_list (side_of q s)) (b j s)

-- the market after a quote, refused or not
abbrev pub quoted_levels : Levels → Result (ℕ × TwoSided Level) MarketFault → Levels
quoted_levels b (Ok p) = quoted_at b p.0 p.1
quoted_levels b (Err e) = b

-- what is left of a level after n contracts are taken
abbrev pub rest_of : Level → ℕ → Option Level
rest_of l n = cond (l.size == n) None (Some (less l n))

-- a take from a side with at most one level
abbrev pub taken_level : Option Level → ℕ → Result (Option Level) MarketFault
taken_level None n = Err Take
taken_level (Some l) n = cond (nat_lt 0 n && nat_le n l.size) (Ok (rest_of l n)) (Err Take)
