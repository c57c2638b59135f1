-- The ranges of the numbers that a caller hands in, and what they then stand for.
use Rattle.std.specs.Prelude.{ℕ, Bool, true, ◌&&◌, ℤ, pos, neg_ℤ, Some, None, Ok, Option, Result}
use Rattle.strategy.specs.declared.leg.Series.{Series}
use Rattle.strategy.specs.declared.price.Buffer.{Buffer}
use Rattle.strategy.specs.declared.price.Buffers.{Buffers}
use Rattle.strategy.specs.Legs.{option}
use Rattle.market.specs.declared.leg.TradedLeg.{TradedLeg}
use Rattle.orders.specs.declared.fault.OrderFault.{OrderFault}
use Rattle.orders.specs.declared.fault.OrderFault.TheVariants.{Range}
use Rattle.orders.specs.declared.records.SeriesTerms.{SeriesTerms}
use Rattle.orders.specs.declared.records.BufferTerms.{BufferTerms}
use Rattle.orders.specs.declared.records.NoticeTerms.{NoticeTerms}
use Rattle.orders.specs.declared.records.LegTerms.{LegTerms}
use Rattle.orders.specs.Checks.{check, between, amount}

-- Series

abbrev pub series_in_range : SeriesTerms → Bool
series_in_range t = between (pos 1) (pos 9999) t.underlying && (between (pos 1) (pos 10000000) t.strike && between (pos 1) (pos 65535) t.expiry)

abbrev pub series_of : SeriesTerms → Series
series_of t = option (amount t.underlying) t.kind (amount t.strike) (amount t.expiry)

abbrev pub checked_series : SeriesTerms → Result Series OrderFault
checked_series t = check (series_in_range t) (Range 0) (Ok (series_of t))

-- Notices

-- the greatest Minimum Value Buffer, absolute Maximum buffer and percentage that a notice may set
abbrev pub buffer_in_range : ℕ → ℕ → ℕ → BufferTerms → Bool
buffer_in_range minimum absolute percentage t =
    between (pos 0) (pos minimum) t.minimum && (between (pos 0) (pos absolute) t.absolute && between (pos 0) (pos percentage) t.percentage)

abbrev pub notice_in_range : NoticeTerms → Bool
notice_in_range t =
    buffer_in_range 100 100 1000 t.vertical && (buffer_in_range 1000 1000 10000 t.butterfly && buffer_in_range 1000 1000 10000 t.boxes)

abbrev pub buffer_of : BufferTerms → Buffer
buffer_of t = record { minimum = amount t.minimum; absolute = amount t.absolute; percentage = amount t.percentage }

abbrev pub buffers_of : NoticeTerms → Buffers
buffers_of t = record { vertical = buffer_of t.vertical; butterfly = buffer_of t.butterfly; boxes = buffer_of t.boxes }

abbrev pub checked_notice : NoticeTerms → Result Buffers OrderFault
checked_notice t = check (notice_in_range t) (Range 0) (Ok (buffers_of t))

-- Orders

abbrev pub limit_in_range : Option ℤ → Bool
limit_in_range None = true
limit_in_range (Some limit) = between (neg_ℤ (pos 20000000)) (pos 20000000) limit

abbrev pub quantity_in_range : ℤ → Bool
quantity_in_range quantity = between (pos 1) (pos 10000) quantity

-- Legs

abbrev pub leg_in_range : LegTerms → Bool
leg_in_range l = between (pos 1) (pos 12) l.ratio && between (pos 0) (pos 255) l.series

abbrev pub ratio_of : LegTerms → ℕ
ratio_of l = amount l.ratio

abbrev pub series_number : LegTerms → ℕ
series_number l = amount l.series

-- a leg with its series by number
abbrev pub traded_leg : LegTerms → TradedLeg
traded_leg l = record { side = l.side; ratio = ratio_of l; series = series_number l }
