use Rattle.std.proofs.Common.{refl}
use Rattle.worked.proofs.worked_prices.Goals as goal
use Rattle.worked.proofs.Prices.{worked}

pub returns : goal.returns
returns c = record { count = refl; hold = worked }
