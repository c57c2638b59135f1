-- The state of a gate.
use Rattle.std.specs.Prelude.{ℕ, min, Bool, List, [], ◌∷◌, length, ℤ, pos, negsuc, None, Option, nat_le}
use Rattle.strategy.specs.declared.leg.Side.{Side}
use Rattle.strategy.specs.declared.leg.Series.{Series}
use Rattle.strategy.specs.declared.class.Class.{Class}
use Rattle.strategy.specs.declared.price.Buffer.{Buffer}
use Rattle.strategy.specs.declared.price.Buffers.{Buffers}
use Rattle.strategy.specs.Few.{listed}
use Rattle.orders.specs.declared.phase.Phase.{Phase}
use Rattle.book.specs.Resting.{Resting}
use Rattle.fills.specs.declared.fill.LegFill.{LegFill}
use Rattle.days.specs.declared.tape.TapeLine.{TapeLine}

-- A line of the tape, in turned terms.
pub record Line : Type 0 where
  -- of the order
  pub number : ℕ
  pub class : Class
  pub side : Side
  pub units : ℕ
  pub net : ℤ
  -- the number of the notice in force
  pub notice : ℕ
  pub legs : List LegFill

abbrev pub line_of : TapeLine → Line
line_of l = record { number = l.order; class = l.class; side = l.side; units = l.units; net = l.net; notice = l.notice; legs = listed l.legs }

pub record State : Type 0 where
  pub phase : Phase
  -- series by their numbers, from 0
  pub series : List Series
  -- accepted notices, the first of them notice 1
  pub notices : List Buffers
  -- how many notices the memory has room for
  pub notice_room : ℕ
  -- the last order number given
  pub last : ℕ
  -- how many orders rest
  pub count : ℕ
  -- the resting orders, by number
  pub order : ℕ → Option Resting
  pub tape : List Line
  -- how many lines the memory has room for
  pub tape_room : ℕ

-- 4,096 lines fill the tape, fewer where the memory is shorter
abbrev pub tape_full : State → Bool
tape_full s = nat_le (min 4096 s.tape_room) (length s.tape)

-- 64 notices fill the list, fewer where the memory is shorter
abbrev pub notices_full : State → Bool
notices_full s = nat_le (min 64 s.notice_room) (length s.notices)

-- Notice 0 is all zeros.
abbrev pub zero_buffer : Buffer
zero_buffer = record { minimum = 0; absolute = 0; percentage = 0 }

abbrev pub notice0 : Buffers
notice0 = record { vertical = zero_buffer; butterfly = zero_buffer; boxes = zero_buffer }

-- the last of some notices, or the first given
abbrev pub last_of : Buffers → List Buffers → Buffers
last_of b [] = b
last_of b (n ∷ ns) = last_of n ns

-- the buffers in force: those of the last notice accepted, at first of notice 0
abbrev pub in_force : List Buffers → Buffers
in_force notices = last_of notice0 notices

-- the order that a caller's number names
abbrev pub lookup : (ℕ → Option Resting) → ℤ → Option Resting
lookup f (pos n) = f n
lookup f (negsuc n) = None

-- The same state with one part replaced.

abbrev pub with_phase : State → Phase → State
with_phase s p = record { phase = p; series = s.series; notices = s.notices; notice_room = s.notice_room; last = s.last; count = s.count; order = s.order; tape = s.tape; tape_room = s.tape_room }

abbrev pub with_series : State → List Series → State
with_series s table = record { phase = s.phase; series = table; notices = s.notices; notice_room = s.notice_room; last = s.last; count = s.count; order = s.order; tape = s.tape; tape_room = s.tape_room }

abbrev pub with_notices : State → List Buffers → State
with_notices s notices = record { phase = s.phase; series = s.series; notices = notices; notice_room = s.notice_room; last = s.last; count = s.count; order = s.order; tape = s.tape; tape_room = s.tape_room }

abbrev pub with_orders : State → ℕ → ℕ → (ℕ → Option Resting) → State
with_orders s last count order = record { phase = s.phase; series = s.series; notices = s.notices; notice_room = s.notice_room; last = last; count = count; order = order; tape = s.tape; tape_room = s.tape_room }

abbrev pub with_tape : State → List Line → State
with_tape s tape = record { phase = s.phase; series = s.series; notices = s.notices; notice_room = s.notice_room; last = s.last; count = s.count; order = s.order; tape = tape; tape_room = s.tape_room }
