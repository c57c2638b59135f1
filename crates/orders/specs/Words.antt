-- The words of the bells and of the ends of a sweep.
use Rattle.std.specs.Prelude.{ℕ, List, codes}
use Rattle.orders.specs.declared.bell.Bell.{Bell}
use Rattle.orders.specs.declared.bell.Bell.TheVariants.{Open, Halt, Resume, Close}
use Rattle.orders.specs.declared.outcome.Outcome.{Outcome}
use Rattle.orders.specs.declared.outcome.Outcome.TheVariants.{Done, Full}

abbrev pub bell_name : Bell → List ℕ
bell_name Open = codes "open"
bell_name Halt = codes "halt"
bell_name Resume = codes "resume"
bell_name Close = codes "close"

abbrev pub outcome_name : Outcome → List ℕ
outcome_name Done = codes "done"
outcome_name Full = codes "full"
