use Rattle.session.proofs.Continuing.{by_call}
use Rattle.session.proofs.session.Session.call.Goals as goal

pub returns-in_err-reply-clause-law : goal.returns-in_err-reply-clause-law
returns-in_err-reply-clause-law g c = by_call _ _ c.args.call c.apply.result c.apply.ensures

pub returns-clause-law : goal.returns-clause-law
returns-clause-law g c = by_call _ _ c.args.call c.apply.result c.apply.ensures
