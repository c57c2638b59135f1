use Rattle.std.proofs.Common.{sym, ap, ◌∙◌, subst}
use Rattle.std.proofs.lemmas.Result.{MatchResult-from_err, MatchResult-weaker}
use Rattle.days.specs.History.{New}
use Rattle.session.specs.Views.{view}
use Rattle.session.proofs.Running.{ran}
use Rattle.session.proofs.desk.run.Goals as goal

pub returns-in_err-notices : goal.returns-in_err-notices
returns-in_err-notices g c = MatchResult-from_err c.from_residual-in_err-notices.result _ _ c.from_residual-in_err-notices.ensures.0 (λ _. tt)

pub returns : goal.returns
returns g c =
    let made = c.new.ensures.gate in
    let new = subst New (sym made) c.new-gate.ensures.new in
    let tape = ap (λ s. s.tape_room) made ∙ c.new-gate.ensures.tape ∙ c.as_mut_slice.ensures.len ∙ c.in_ok-tape.ensures.len in
    let notices = ap (λ s. s.notice_room) made ∙ c.new-gate.ensures.notices ∙ c.as_mut_slice-2.ensures.len ∙ c.in_ok-notices.ensures.len in
    MatchResult-weaker c.serve.result c.serve.ensures
    (λ _ served. ran (λ d. view (record { levels = g.V.Market.levels; count = g.V.Market.count; updated = g.V.Venue.updated; after = g.V.Venue.after }) d.session) _ _ _ new tape notices (ap g.V.Market.levels c.new.ensures.venue) served)
    (λ _ u. u)
