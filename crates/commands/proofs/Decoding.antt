-- The command that parts say, computed from them: so they say at most one.
use Rattle.std.proofs.Common.{◌≡◌, ℕ, cond, eqb, List, [], ◌∷◌, get_or, drop, ℤ, pos, Some, None, Option, sym, refl, ap, ◌∙◌}
use Rattle.strategy.specs.declared.leg.Side.{Side}
use Rattle.strategy.specs.declared.leg.Side.TheVariants.{Buy, Sell}
use Rattle.strategy.specs.declared.leg.Kind.{Kind}
use Rattle.strategy.specs.declared.leg.Kind.TheVariants.{Call, Put}
use Rattle.market.specs.declared.quote.QuoteSide.{QuoteSide}
use Rattle.market.specs.declared.quote.QuoteSide.TheVariants.{Bid, Offer}
use Rattle.orders.specs.LegLists.{abridged}
use Rattle.orders.specs.Words.{bell_name}
use Rattle.orders.specs.declared.bell.Bell.{Bell}
use Rattle.orders.specs.declared.bell.Bell.TheVariants.{Open, Halt, Resume, Close}
use Rattle.orders.specs.declared.records.SeriesTerms.{SeriesTerms}
use Rattle.orders.specs.declared.records.NoticeTerms.{NoticeTerms}
use Rattle.market.specs.declared.terms.QuoteTerms.{QuoteTerms}
use Rattle.market.specs.declared.terms.LevelTerms.{LevelTerms}
use Rattle.orders.specs.declared.records.LegTerms.{LegTerms}
use Rattle.orders.specs.declared.records.LegList.{LegList}
use Rattle.orders.specs.declared.records.Channel.{Channel}
use Rattle.orders.specs.declared.records.Channel.TheVariants.{Plain, Exempt}
use Rattle.orders.specs.declared.records.OrderTerms.{OrderTerms}
use Rattle.commands.specs.Commands.{series_parts, level_parts, order_parts, Says}
use Rattle.commands.specs.Legs.{legs_parts}
use Rattle.commands.specs.Parts.{Part, word, number, opens, closes}
use Rattle.commands.specs.Words.{side_name, quote_side_name, kind_name, channel_name}
use Rattle.commands.specs.declared.command.Command.{Command}
use Rattle.commands.specs.declared.command.Command.TheVariants as commands

abbrev value : Part → ℤ
value (word w) = pos 0
value (number z) = z
value opens = pos 0
value closes = pos 0

abbrev text : Part → List ℕ
text (word w) = w
text (number z) = []
text opens = []
text closes = []

abbrev number_at : List Part → ℕ → ℤ
number_at ps k = value (get_or ps k closes)

-- the first two letters of the word at a place
abbrev first : List Part → ℕ → ℕ
first ps k = get_or (text (get_or ps k closes)) 0 0

abbrev second : List Part → ℕ → ℕ
second ps k = get_or (text (get_or ps k closes)) 1 0

abbrev side_at : List Part → ℕ → Side
side_at ps k = cond (eqb (first ps k) 98) Buy Sell

abbrev kind_at : List Part → ℕ → Kind
kind_at ps k = cond (eqb (first ps k) 99) Call Put

abbrev quote_side_at : List Part → ℕ → QuoteSide
quote_side_at ps k = cond (eqb (first ps k) 98) Bid Offer

abbrev channel_at : List Part → ℕ → Channel
channel_at ps k = cond (eqb (first ps k) 112) Plain Exempt

abbrev bell_at : List Part → ℕ → Bell
bell_at ps k = cond (eqb (first ps k) 111) Open (cond (eqb (first ps k) 104) Halt (cond (eqb (first ps k) 114) Resume Close))

legs_in : List Part → List LegTerms
legs_in [] = []
legs_in (a ∷ []) = []
legs_in (a ∷ b ∷ []) = []
legs_in (a ∷ b ∷ c ∷ []) = []
legs_in (a ∷ b ∷ c ∷ d ∷ []) = []
legs_in (a ∷ b ∷ c ∷ d ∷ e ∷ more) = record { side = side_at (b ∷ []) 0; ratio = value c; series = value d } ∷ legs_in more

abbrev series_in : List Part → SeriesTerms
series_in ps = record { underlying = number_at ps 0; kind = kind_at ps 1; strike = number_at ps 2; expiry = number_at ps 3 }

abbrev notice_in : List Part → NoticeTerms
notice_in ps =
    record {
      vertical = record { minimum = number_at ps 0; absolute = number_at ps 1; percentage = number_at ps 2 };
      butterfly = record { minimum = number_at ps 3; absolute = number_at ps 4; percentage = number_at ps 5 };
      boxes = record { minimum = number_at ps 6; absolute = number_at ps 7; percentage = number_at ps 8 };
    }

abbrev quote_in : List Part → QuoteTerms
quote_in ps =
    record { series = number_at ps 0; bid_price = number_at ps 1; bid_size = number_at ps 2; offer_price = number_at ps 3; offer_size = number_at ps 4 }

abbrev level_in : List Part → LevelTerms
level_in ps = record { series = number_at ps 0; side = quote_side_at ps 1; price = number_at ps 2; size = number_at ps 3 }

abbrev order_in : List Part → OrderTerms
order_in ps =
    cond (eqb (first ps 1) 109)
    record { side = side_at ps 0; limit = None; quantity = number_at ps 2; channel = channel_at ps 3; legs = abridged (legs_in (drop 4 ps)) }
    record { side = side_at ps 0; limit = Some (number_at ps 2); quantity = number_at ps 3; channel = channel_at ps 4; legs = abridged (legs_in (drop 5 ps)) }

abbrev command_in : List Part → Command
command_in ps =
    cond (eqb (first ps 0) 113) (commands.Quote (quote_in (drop 1 ps)))
    (cond (eqb (first ps 0) 108) (commands.Level (level_in (drop 1 ps)))
    (cond (eqb (first ps 0) 101) (commands.Enter (order_in (drop 1 ps)))
    (cond (eqb (first ps 0) 112) (commands.Phase (bell_at ps 1))
    (cond (eqb (first ps 0) 99) (commands.Cancel (number_at ps 1))
    (cond (eqb (first ps 0) 119) (commands.Work (number_at ps 1))
    (cond (eqb (first ps 0) 115) (cond (eqb (second ps 0) 101) (commands.Series (series_in (drop 1 ps))) commands.Sweep)
    (cond (eqb (second ps 0) 111) (commands.Notice (notice_in (drop 1 ps))) (commands.Net (abridged (legs_in (drop 1 ps)))))))))))

side_back : (s : Side) (ps : List Part) → side_at (word (side_name s) ∷ ps) 0 ≡ s
side_back Buy ps = refl
side_back Sell ps = refl

legs_back : (all : List LegTerms) → legs_in (legs_parts all) ≡ all
unfolding legs_in
legs_back [] = refl
legs_back (x ∷ all) = λ i. record { side = side_back x.side [] i; ratio = x.ratio; series = x.series } ∷ legs_back all i

series_back : (x : SeriesTerms) → series_in (series_parts x) ≡ x
series_back x = λ i. record { underlying = x.underlying; kind = kind_back x.kind i; strike = x.strike; expiry = x.expiry } where
  kind_back : (k : Kind) → kind_at (number x.underlying ∷ word (kind_name k) ∷ []) 1 ≡ k
  kind_back Call = refl
  kind_back Put = refl

level_back : (x : LevelTerms) → level_in (level_parts x) ≡ x
level_back x = λ i. record { series = x.series; side = back x.side i; price = x.price; size = x.size } where
  back : (s : QuoteSide) → quote_side_at (word (quote_side_name s) ∷ []) 0 ≡ s
  back Bid = refl
  back Offer = refl

bell_back : (b : Bell) → bell_at (word (bell_name b) ∷ []) 0 ≡ b
bell_back Open = refl
bell_back Halt = refl
bell_back Resume = refl
bell_back Close = refl

channel_back : (c : Channel) → channel_at (word (channel_name c) ∷ []) 0 ≡ c
channel_back Plain = refl
channel_back Exempt = refl

order_back : (side : Side) (limit : Option ℤ) (quantity : ℤ) (channel : Channel) (legs : LegList) (all : List LegTerms) → legs ≡ abridged all → order_in (order_parts record { side = side; limit = limit; quantity = quantity; channel = channel; legs = legs } all) ≡ record { side = side; limit = limit; quantity = quantity; channel = channel; legs = legs }
order_back side None quantity channel legs all e =
    let l : abridged (legs_in (legs_parts all)) ≡ legs = ap abridged (legs_back all) ∙ sym e in
    λ i. record { side = side_back side [] i; limit = None; quantity = quantity; channel = channel_back channel i; legs = l i }
order_back side (Some z) quantity channel legs all e =
    let l : abridged (legs_in (legs_parts all)) ≡ legs = ap abridged (legs_back all) ∙ sym e in
    λ i. record { side = side_back side [] i; limit = Some z; quantity = quantity; channel = channel_back channel i; legs = l i }

said : (c : Command) (ps : List Part) → Says c ps → command_in ps ≡ c
said (commands.Series x) ps e = rw e (ap commands.Series (series_back x))
said (commands.Notice x) ps e = rw e
said (commands.Quote x) ps e = rw e
said (commands.Level x) ps e = rw e (ap commands.Level (level_back x))
said (commands.Enter x) ps (more, (e, s)) = rw (e, s.parts) (ap commands.Enter (order_back x.side x.limit x.quantity x.channel x.legs s.all s.holds))
said (commands.Phase b) ps e = rw e (ap commands.Phase (bell_back b))
said (commands.Cancel n) ps e = rw e
said (commands.Work n) ps e = rw e
said commands.Sweep ps e = rw e
said (commands.Net l) ps (more, (e, s)) = rw (e, s.parts) (ap commands.Net (ap abridged (legs_back s.all) ∙ sym s.holds))

pub one_command : (c d : Command) (ps : List Part) → Says c ps → Says d ps → d ≡ c
one_command c d ps p q = sym (said d ps q) ∙ said c ps p
