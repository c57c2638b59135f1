use Rattle.std.proofs.Common.{refl}
use Rattle.worked.proofs.example_day.Goals as goal
use Rattle.worked.proofs.Day.{example}

pub returns : goal.returns
returns c = record { count = refl; leads = example }
