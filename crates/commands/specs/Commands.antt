-- The forms of the commands: which parts each one has.
use Rattle.std.specs.Prelude.{◌≡◌, List, [], ◌∷◌, ◌++◌, ℤ, Some, None, codes, Option}
use Rattle.orders.specs.LegLists.{abridged}
use Rattle.orders.specs.Words.{bell_name}
use Rattle.orders.specs.declared.records.SeriesTerms.{SeriesTerms}
use Rattle.orders.specs.declared.records.BufferTerms.{BufferTerms}
use Rattle.orders.specs.declared.records.NoticeTerms.{NoticeTerms}
use Rattle.market.specs.declared.terms.QuoteTerms.{QuoteTerms}
use Rattle.market.specs.declared.terms.LevelTerms.{LevelTerms}
use Rattle.orders.specs.declared.records.LegTerms.{LegTerms}
use Rattle.orders.specs.declared.records.OrderTerms.{OrderTerms}
use Rattle.commands.specs.Legs.{LegsRead, legs_parts}
use Rattle.commands.specs.Parts.{Part, word, number}
use Rattle.commands.specs.Words.{side_name, quote_side_name, kind_name, channel_name}
use Rattle.commands.specs.declared.command.Command.{Command}
use Rattle.commands.specs.declared.command.Command.TheVariants as commands

-- What follows the first word.

abbrev pub series_parts : SeriesTerms → List Part
series_parts x = number x.underlying ∷ word (kind_name x.kind) ∷ number x.strike ∷ number x.expiry ∷ []

abbrev pub buffers_parts : BufferTerms → List Part
buffers_parts x = number x.minimum ∷ number x.absolute ∷ number x.percentage ∷ []

abbrev pub notice_parts : NoticeTerms → List Part
notice_parts x = buffers_parts x.vertical ++ (buffers_parts x.butterfly ++ buffers_parts x.boxes)

abbrev pub quote_parts : QuoteTerms → List Part
quote_parts x = number x.series ∷ number x.bid_price ∷ number x.bid_size ∷ number x.offer_price ∷ number x.offer_size ∷ []

abbrev pub level_parts : LevelTerms → List Part
level_parts x = number x.series ∷ word (quote_side_name x.side) ∷ number x.price ∷ number x.size ∷ []

abbrev pub limit_parts : Option ℤ → List Part
limit_parts None = word (codes "market") ∷ []
limit_parts (Some z) = word (codes "limit") ∷ number z ∷ []

abbrev pub order_parts : OrderTerms → List LegTerms → List Part
order_parts x all = word (side_name x.side) ∷ (limit_parts x.limit ++ (number x.quantity ∷ word (channel_name x.channel) ∷ legs_parts all))

-- the parts are those of the order with some legs, which x abridges
pub record OrderSays (x : OrderTerms) (ps : List Part) : Type 0 where
  pub all : List LegTerms
  pub holds : x.legs ≡ abridged all
  pub parts : ps ≡ order_parts x all

-- The parts of a line that says the command. A line says all of its legs, and the command abridges them.
abbrev pub Says : Command → List Part → Type 0
Says (commands.Series x) ps = ps ≡ word (codes "series") ∷ series_parts x
Says (commands.Notice x) ps = ps ≡ word (codes "notice") ∷ notice_parts x
Says (commands.Quote x) ps = ps ≡ word (codes "quote") ∷ quote_parts x
Says (commands.Level x) ps = ps ≡ word (codes "level") ∷ level_parts x
Says (commands.Enter x) ps = (more : List Part) × ((ps ≡ word (codes "enter") ∷ more) × OrderSays x more)
Says (commands.Phase b) ps = ps ≡ word (codes "phase") ∷ word (bell_name b) ∷ []
Says (commands.Cancel n) ps = ps ≡ word (codes "cancel") ∷ number n ∷ []
Says (commands.Work n) ps = ps ≡ word (codes "work") ∷ number n ∷ []
Says commands.Sweep ps = ps ≡ word (codes "sweep") ∷ []
Says (commands.Net l) ps = (more : List Part) × ((ps ≡ word (codes "net") ∷ more) × LegsRead l more)

-- the command that the parts say, if they say one
abbrev pub Means : List Part → Option Command → Type 0
Means ps (Some c) = Says c ps
Means ps None = (c : Command) → Says c ps → ⊥
