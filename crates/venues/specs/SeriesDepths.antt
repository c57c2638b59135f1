-- The levels of one series of a ladder.
use Rattle.std.specs.Prelude.{cond, List, []}
use Rattle.market.specs.declared.quote.QuoteSide.{QuoteSide}
use Rattle.market.specs.declared.quote.QuoteSide.TheVariants.{Bid, Offer}
use Rattle.market.specs.declared.quote.Level.{Level}
use Rattle.venues.specs.declared.series.SeriesDepth.{SeriesDepth}
use Rattle.venues.specs.Depths.{depth_levels}
use Rattle.market.specs.Sides.{same_side}

abbrev pub no_depth : QuoteSide → List Level
no_depth = λ s. []

abbrev pub side_levels : SeriesDepth → QuoteSide → List Level
side_levels d Bid = depth_levels d.bids
side_levels d Offer = depth_levels d.offers

abbrev pub series_levels : SeriesDepth → QuoteSide → List Level
series_levels d = λ s. side_levels d s

-- one side replaced, the other as it was
abbrev pub one_side : (QuoteSide → List Level) → QuoteSide → List Level → QuoteSide → List Level
one_side f s ls = λ t. cond (same_side t s) ls (f t)
