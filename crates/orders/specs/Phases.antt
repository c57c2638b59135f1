-- The phases of a day, and where each bell leads.
use Rattle.std.specs.Prelude.{Some, None, Ok, Err, Option, Result}
use Rattle.orders.specs.declared.bell.Bell.{Bell}
use Rattle.orders.specs.declared.bell.Bell.TheVariants as bell
use Rattle.orders.specs.declared.phase.Phase.{Phase}
use Rattle.orders.specs.declared.phase.Phase.TheVariants as phase
use Rattle.orders.specs.declared.fault.GateFault.{GateFault}
use Rattle.orders.specs.declared.fault.GateFault.TheVariants as gate

-- where a bell leads, if it acts on the phase
abbrev pub after : Phase → Bell → Option Phase
after phase.Pre bell.Open = Some phase.Open
after phase.Pre bell.Halt = None
after phase.Pre bell.Resume = None
after phase.Pre bell.Close = Some phase.Closed
after phase.Open bell.Open = None
after phase.Open bell.Halt = Some phase.Halt
after phase.Open bell.Resume = None
after phase.Open bell.Close = Some phase.Closed
after phase.Halt bell.Open = None
after phase.Halt bell.Halt = None
after phase.Halt bell.Resume = Some phase.Open
after phase.Halt bell.Close = Some phase.Closed
after phase.Closed bell.Open = None
after phase.Closed bell.Halt = None
after phase.Closed bell.Resume = None
after phase.Closed bell.Close = None

-- refused where the bell leads nowhere
abbrev pub rung : Option Phase → Result (Unit {0}) GateFault
rung None = Err gate.Phase
rung (Some next) = Ok tt

-- the next phase, or the same
abbrev pub or_same : Option Phase → Phase → Phase
or_same None same = same
or_same (Some next) same = next
