-- The words of the commands.
use Rattle.std.specs.Prelude.{ℕ, List, codes}
use Rattle.strategy.specs.declared.leg.Side.{Side}
use Rattle.strategy.specs.declared.leg.Side.TheVariants as sides
use Rattle.strategy.specs.declared.leg.Kind.{Kind}
use Rattle.strategy.specs.declared.leg.Kind.TheVariants as kinds
use Rattle.market.specs.declared.quote.QuoteSide.{QuoteSide}
use Rattle.market.specs.declared.quote.QuoteSide.TheVariants as quote_sides
use Rattle.orders.specs.declared.records.Channel.{Channel}
use Rattle.orders.specs.declared.records.Channel.TheVariants as channels
use Rattle.commands.specs.declared.words.Head.{Head}
use Rattle.commands.specs.declared.words.Head.TheVariants as heads
use Rattle.commands.specs.declared.words.Pricing.{Pricing}
use Rattle.commands.specs.declared.words.Pricing.TheVariants as pricings

abbrev pub head_name : Head → List ℕ
head_name heads.Series = codes "series"
head_name heads.Notice = codes "notice"
head_name heads.Quote = codes "quote"
head_name heads.Level = codes "level"
head_name heads.Enter = codes "enter"
head_name heads.Phase = codes "phase"
head_name heads.Cancel = codes "cancel"
head_name heads.Work = codes "work"
head_name heads.Sweep = codes "sweep"
head_name heads.Net = codes "net"

abbrev pub side_name : Side → List ℕ
side_name sides.Buy = codes "buy"
side_name sides.Sell = codes "sell"

abbrev pub quote_side_name : QuoteSide → List ℕ
quote_side_name quote_sides.Bid = codes "bid"
quote_side_name quote_sides.Offer = codes "offer"

abbrev pub kind_name : Kind → List ℕ
kind_name kinds.Call = codes "call"
kind_name kinds.Put = codes "put"

abbrev pub channel_name : Channel → List ℕ
channel_name channels.Plain = codes "plain"
channel_name channels.Exempt = codes "exempt"

abbrev pub pricing_name : Pricing → List ℕ
pricing_name pricings.Market = codes "market"
pricing_name pricings.Limit = codes "limit"
