-- Answers and refusals, and checks one after the other, some of them of a lower layer.
use Rattle.std.specs.Prelude.{Some, None, Ok, Err, Option, Result}
use Rattle.orders.specs.declared.fault.OrderFault.{OrderFault}
use Rattle.orders.specs.declared.fault.GateFault.{GateFault}
use Rattle.orders.specs.declared.fault.GateFault.TheVariants as gate
use Rattle.days.specs.declared.reply.Reply.{Reply}

-- what a call answers, or why it is refused
abbrev pub Verdict : Type 0
Verdict = Result Reply GateFault

-- what comes of the value of an answer that is no refusal
abbrev pub and_then : {A B E : Type 0} → Result A E → (A → Result B E) → Result B E
and_then (Ok x) next = next x
and_then (Err e) next = Err e

-- a fault of the order layer is carried whole in the gate's
abbrev pub carried : {A : Type 0} → Result A OrderFault → Result A GateFault
carried (Ok x) = Ok x
carried (Err f) = Err (gate.Order f)

-- refused if there is a fault
abbrev pub check_fault : {A B : Type 0} → Option B → Result A B → Result A B
check_fault None next = next
check_fault (Some fault) next = Err fault
