-- The calls of series and notice.
use Rattle.std.specs.Prelude.{ℕ, ◌+◌, Bool, true, false, not, [], ◌∷◌, ◌++◌, length, Ok, Result}
use Rattle.orders.specs.declared.phase.Phase.{Phase}
use Rattle.orders.specs.declared.phase.Phase.TheVariants as phase
use Rattle.orders.specs.declared.fault.OrderFault.TheVariants as order
use Rattle.orders.specs.declared.fault.GateFault.{GateFault}
use Rattle.orders.specs.declared.fault.GateFault.TheVariants as gate
use Rattle.orders.specs.declared.records.SeriesTerms.{SeriesTerms}
use Rattle.orders.specs.declared.records.NoticeTerms.{NoticeTerms}
use Rattle.orders.specs.Checks.{check}
use Rattle.orders.specs.Ranges.{series_in_range, series_of, notice_in_range, buffers_of}
use Rattle.listing.specs.Listing.{listing_answer}
use Rattle.days.specs.State.{State, notices_full, with_series, with_notices}

abbrev pub is_pre : Phase → Bool
is_pre phase.Pre = true
is_pre phase.Open = false
is_pre phase.Halt = false
is_pre phase.Closed = false

abbrev pub is_closed : Phase → Bool
is_closed phase.Pre = false
is_closed phase.Open = false
is_closed phase.Halt = false
is_closed phase.Closed = true

-- Series

-- the number of a new series, or why it is refused
abbrev pub listing : State → SeriesTerms → Result ℕ GateFault
listing s t =
    check (series_in_range t) (gate.Order (order.Range 0)) (
    check (is_pre s.phase) gate.Phase (
    listing_answer s.series (series_of t)))

abbrev pub listed_in : State → SeriesTerms → State
listed_in s t = with_series s (s.series ++ series_of t ∷ [])

-- Notice

-- the number of a new notice, or why it is refused
abbrev pub posting : State → NoticeTerms → Result ℕ GateFault
posting s t =
    check (notice_in_range t) (gate.Order (order.Range 0)) (
    check (not (is_closed s.phase)) gate.Phase (
    check (not (notices_full s)) gate.NoticesFull (
    Ok (length s.notices + 1))))

abbrev pub posted_in : State → NoticeTerms → State
posted_in s t = with_notices s (s.notices ++ buffers_of t ∷ [])
