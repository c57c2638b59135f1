use Rattle.std.proofs.Common.{refl, rules}
use Rattle.session.proofs.Continuing.{as_it_was}
use Rattle.session.proofs.Doing.{of_market}
use Rattle.session.proofs.session.Session.obey.Goals as goal

pub returns-in-Quote : goal.returns-in-Quote
returns-in-Quote g c = record { obeys = of_market c.args.command _ _ _ c.in-Quote.is c.update.ensures; law = as_it_was _ _ c.update.ensures.0 }

pub returns-in-Net : goal.returns-in-Net
returns-in-Net g c = record { obeys = search rules; law = as_it_was _ _ refl }
