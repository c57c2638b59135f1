-- The words of the worked prices and of the example day. Amounts are in cents.
use Rattle.std.specs.Prelude.{ℕ, true, false, List, [], ◌∷◌, ℤ, pos, neg_ℤ, Ok, Err, Option, Result, slice_index_or}
use Rattle.strategy.specs.declared.leg.Side.{Side}
use Rattle.strategy.specs.declared.class.Class.{Class}
use Rattle.strategy.specs.declared.class.Strategy.{Strategy}
use Rattle.strategy.specs.declared.price.Buffer.{Buffer}
use Rattle.strategy.specs.declared.price.Buffers.{Buffers}
use Rattle.market.specs.declared.quote.QuoteSide.{QuoteSide}
use Rattle.market.specs.declared.quote.QuoteSide.TheVariants.{Bid, Offer}
use Rattle.market.specs.declared.quote.Level.{Level}
use Rattle.market.specs.declared.quote.TwoSided.{TwoSided}
use Rattle.market.specs.Levels.{Levels}
use Rattle.orders.specs.declared.fault.GateFault.{GateFault}
use Rattle.orders.specs.declared.records.Channel.TheVariants.{Plain}
use Rattle.orders.specs.declared.records.LegTerms.{LegTerms}
use Rattle.orders.specs.declared.records.OrderTerms.{OrderTerms}
use Rattle.orders.specs.Faults.{number_of, place_of}
use Rattle.orders.specs.LegLists.{abridged}
use Rattle.fills.specs.declared.fill.LegFill.{LegFill}
use Rattle.days.specs.State.{Line}

abbrev pub minus : ℕ → ℤ
minus n = neg_ℤ (pos n)

-- Orders

abbrev pub leg : Side → ℕ → ℕ → LegTerms
leg side ratio series = record { side = side; ratio = pos ratio; series = pos series }

-- a plain order
abbrev pub plain : Side → Option ℤ → ℕ → List LegTerms → OrderTerms
plain side limit quantity legs = record { side = side; limit = limit; quantity = pos quantity; channel = Plain; legs = abridged legs }

abbrev pub is : Class → ℕ → Strategy
is class width = record { class = class; width = width; turned = false }

abbrev pub turned : Class → ℕ → Strategy
turned class width = record { class = class; width = width; turned = true }

-- Minimum Value Buffer, absolute Maximum buffer and percentage
abbrev pub buffer : ℕ → ℕ → ℕ → Buffer
buffer minimum absolute percentage = record { minimum = minimum; absolute = absolute; percentage = percentage }

abbrev pub notice : ℕ → ℕ → ℕ → ℕ → ℕ → ℕ → ℕ → ℕ → ℕ → Buffers
notice v0 v1 v2 f0 f1 f2 b0 b1 b2 = record { vertical = buffer v0 v1 v2; butterfly = buffer f0 f1 f2; boxes = buffer b0 b1 b2 }

-- Markets

abbrev pub level : ℕ → ℕ → Level
level price size = record { price = price; size = size }

-- the bids and the offers of one series
pub record SeriesLevels : Type 0 where
  pub bids : List Level
  pub offers : List Level

abbrev pub on : SeriesLevels → QuoteSide → List Level
on q Bid = q.bids
on q Offer = q.offers

abbrev pub no_quote : SeriesLevels
no_quote = record { bids = []; offers = [] }

-- bid, its size, offer, its size
abbrev pub quote : ℕ → ℕ → ℕ → ℕ → SeriesLevels
quote bid bid_size offer offer_size = record { bids = level bid bid_size ∷ []; offers = level offer offer_size ∷ [] }

-- a market by its series, from 0
abbrev pub market_of : List SeriesLevels → Levels
market_of qs = λ k s. on (slice_index_or qs k no_quote) s

abbrev pub net : Option ℤ → Option ℤ → TwoSided ℤ
net bid offer = record { bid = bid; offer = offer }

-- Answers

-- an answer, or the number and the place of a refusal
abbrev pub Drawn : Type 0 → Type 0
Drawn A = Result A (ℕ × ℕ)

abbrev pub drawn : {A B : Type 0} → (A → B) → Result A GateFault → Drawn B
drawn f (Ok x) = Ok (f x)
drawn f (Err fault) = Err (number_of fault, place_of fault)

abbrev pub refused : {A : Type 0} → ℕ → ℕ → Drawn A
refused number place = Err (number, place)

-- the number of an order
abbrev pub order : ℕ → Drawn ℕ
order n = Ok n

-- units, and the net price of one of them
abbrev pub fills : ℕ → ℤ → Drawn (ℕ × ℤ)
fills units price = Ok (units, price)

-- Tape lines

-- a leg's series, signed ratio and price
abbrev pub at : ℕ → ℤ → ℕ → LegFill
at series ratio price = record { series = series; ratio = ratio; price = price }

-- order, class, side, units, net price, notice, legs
abbrev pub line : ℕ → Class → Side → ℕ → ℤ → ℕ → List LegFill → Line
line number class side units price notice legs = record { number = number; class = class; side = side; units = units; net = price; notice = notice; legs = legs }
