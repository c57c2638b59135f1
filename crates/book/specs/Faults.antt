-- The book's faults among the gate's.
use Rattle.orders.specs.declared.fault.GateFault.{GateFault}
use Rattle.orders.specs.declared.fault.GateFault.TheVariants as gate
use Rattle.book.specs.declared.fault.BookFault.{BookFault}
use Rattle.book.specs.declared.fault.BookFault.TheVariants as book

abbrev pub gate_fault : BookFault → GateFault
gate_fault book.Full = gate.BookFull
gate_fault book.NumbersUsedUp = gate.NumbersUsedUp
