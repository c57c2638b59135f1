-- Bid and offer, and what has two sides.
use Rattle.std.specs.Prelude.{Bool, true, false, Option}
use Rattle.market.specs.declared.quote.QuoteSide.{QuoteSide}
use Rattle.market.specs.declared.quote.QuoteSide.TheVariants.{Bid, Offer}
use Rattle.market.specs.declared.quote.TwoSided.{TwoSided}

abbrev pub opposite : QuoteSide → QuoteSide
opposite Bid = Offer
opposite Offer = Bid

abbrev pub same_side : QuoteSide → QuoteSide → Bool
same_side Bid Bid = true
same_side Bid Offer = false
same_side Offer Bid = false
same_side Offer Offer = true

abbrev pub side_of : {T : Type 0} → TwoSided T → QuoteSide → Option T
side_of q Bid = q.bid
side_of q Offer = q.offer

-- the same with one side replaced
abbrev pub with_side : {T : Type 0} → TwoSided T → QuoteSide → Option T → TwoSided T
with_side q Bid x = record { bid = x; offer = q.offer }
with_side q Offer x = record { bid = q.bid; offer = x }
