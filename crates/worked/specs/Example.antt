-- A day of nine calls, with their answers: two series, a notice, two orders, the opening, a work that is prevented, a sweep that fills
-- both orders after the quote of series 0 has changed, and a cancel that comes too late.
use Rattle.std.specs.Prelude.{ℕ, List, [], ◌∷◌, pos, Some, None, Ok, Err}
use Rattle.strategy.specs.declared.leg.Kind.TheVariants.{Call as call-kind}
use Rattle.strategy.specs.declared.leg.Side.TheVariants.{Buy, Sell}
use Rattle.strategy.specs.declared.class.Class.TheVariants.{Vertical}
use Rattle.market.specs.Levels.{Levels, no_levels}
use Rattle.orders.specs.declared.phase.Phase.TheVariants.{Pre}
use Rattle.orders.specs.declared.bell.Bell.TheVariants.{Open}
use Rattle.orders.specs.declared.outcome.Outcome.TheVariants.{Done}
use Rattle.orders.specs.declared.fault.GateFault.TheVariants.{NotResting, Prevented}
use Rattle.orders.specs.declared.records.SeriesTerms.{SeriesTerms}
use Rattle.orders.specs.declared.records.BufferTerms.{BufferTerms}
use Rattle.orders.specs.declared.records.NoticeTerms.{NoticeTerms}
use Rattle.orders.specs.declared.records.LegTerms.{LegTerms}
use Rattle.orders.specs.declared.records.OrderTerms.{OrderTerms}
use Rattle.book.specs.Resting.{nothing}
use Rattle.days.specs.declared.call.Call.{Call}
use Rattle.days.specs.declared.call.Call.TheVariants as call
use Rattle.days.specs.Verdicts.{Verdict}
use Rattle.days.specs.declared.reply.Reply.TheVariants as reply
use Rattle.days.specs.State.{State, Line}
use Rattle.days.specs.Listings.{listed_in, posted_in}
use Rattle.days.specs.Cancels.{rung_in}
use Rattle.days.specs.Entries.{placed_as, entered_as, options_of, entered_in}
use Rattle.days.specs.Works.{filled_in, filled_from}
use Rattle.days.specs.History.{Event, order, Leads}
use Rattle.worked.specs.Words.{minus, leg, plain, is, quote, market_of, at, line}

-- Series, notice and orders

abbrev pub call_at : ℕ → SeriesTerms
call_at strike = record { underlying = pos 1; kind = call-kind; strike = pos strike; expiry = pos 26 }

abbrev pub no_buffer : BufferTerms
no_buffer = record { minimum = pos 0; absolute = pos 0; percentage = pos 0 }

abbrev pub notice1 : NoticeTerms
notice1 = record { vertical = record { minimum = pos 10; absolute = pos 10; percentage = pos 500 }; butterfly = no_buffer; boxes = no_buffer }

abbrev pub legs : List LegTerms
legs = leg Buy 1 0 ∷ leg Sell 1 1 ∷ []

abbrev pub order1 : OrderTerms
order1 = plain Buy None 3 legs

abbrev pub order2 : OrderTerms
order2 = plain Buy (Some (pos 500)) 2 legs

-- The gate after each call

abbrev pub gate0 : State
gate0 = record { phase = Pre; series = []; notices = []; notice_room = 64; last = 0; count = 0; order = nothing; tape = []; tape_room = 4096 }

abbrev pub gate1 : State
gate1 = listed_in gate0 (call_at 2000)

abbrev pub gate2 : State
gate2 = listed_in gate1 (call_at 2500)

abbrev pub gate3 : State
gate3 = posted_in gate2 notice1

abbrev pub with_order : State → ℕ → OrderTerms → State
with_order s n o = entered_in s n (placed_as (entered_as o) (options_of s.series o)) (is Vertical 500)

abbrev pub gate4 : State
gate4 = with_order gate3 1 order1

abbrev pub gate5 : State
gate5 = with_order gate4 2 order2

abbrev pub gate6 : State
gate6 = rung_in gate5 Open

abbrev pub line_of : ℕ → ℕ → Line
line_of number units = line number Vertical Buy units (pos 495) 1 (at 0 (pos 1) 1030 ∷ at 1 (minus 1) 535 ∷ [])

abbrev pub lines : List Line
lines = line_of 1 3 ∷ line_of 2 2 ∷ []

abbrev pub gate7 : State
gate7 = filled_in (filled_in gate6 (line_of 1 3)) (line_of 2 2)

-- The markets

abbrev pub market1 : Levels
market1 = market_of (quote 1055 5 1070 8 ∷ quote 535 6 550 7 ∷ [])

abbrev pub market2 : Levels
market2 = market_of (quote 1025 4 1030 9 ∷ quote 535 6 550 7 ∷ [])

-- as the sweep leaves it
abbrev pub market3 : Levels
market3 = filled_from (filled_in gate6 (line_of 1 3)) (filled_from gate6 market2 (line_of 1 3)) (line_of 2 2)

-- The calls, the newest first

-- a call that writes no line
abbrev pub asked : Call → Verdict → State → Levels → Event
asked c a s m = record { call = c; reply = a; before = s; market = m; left = m; fills = [] }

abbrev pub morning : List Event
morning =
    asked (call.Work (pos 1)) (Err Prevented) gate6 market1
    ∷ asked (call.Phase Open) (Ok (reply.Phase Open 0)) gate5 market1
    ∷ asked (call.Enter order2) (order 2 (is Vertical 500)) gate4 market1
    ∷ asked (call.Enter order1) (order 1 (is Vertical 500)) gate3 market1
    ∷ asked (call.Notice notice1) (Ok (reply.Notice 1)) gate2 no_levels
    ∷ asked (call.Series (call_at 2500)) (Ok (reply.Series 1)) gate1 no_levels
    ∷ asked (call.Series (call_at 2000)) (Ok (reply.Series 0)) gate0 no_levels
    ∷ []

abbrev pub day : List Event
day =
    asked (call.Cancel (pos 2)) (Err NotResting) gate7 market3
    ∷ record { call = call.Sweep; reply = Ok (reply.Sweep (record { lines = 2; units = 5; outcome = Done })); before = gate6; market = market2; left = market3; fills = lines }
    ∷ morning

-- the calls lead a new gate to the last state
abbrev pub ExampleDay : Type 0
ExampleDay = Leads day gate7
