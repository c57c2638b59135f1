-- The state that a gate stands for.
use Rattle.std.specs.Prelude.{map}
use Rattle.lent.specs.Items.{items, room}
use Rattle.listing.specs.Tables.{table}
use Rattle.book.specs.Books.{resting, count, last}
use Rattle.days.specs.State.{State, line_of}
use Rattle.gate_calls.specs.declared.gate.Gate.{Gate}

abbrev pub state : Gate → State
state g = record {
  phase = g.phase;
  series = table g.table;
  notices = items g.notices;
  notice_room = room g.notices;
  last = last g.book;
  count = count g.book;
  order = resting g.book;
  tape = map line_of (items g.tape);
  tape_room = room g.tape;
}
