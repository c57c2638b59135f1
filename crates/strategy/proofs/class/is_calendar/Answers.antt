use Rattle.std.proofs.Common.{refl, arith}
use Rattle.std.proofs.lemmas.Bool.Decides.{Decides-like, Decides-ltb}
use Rattle.strategy.proofs.Span.{calendar_read}
use Rattle.strategy.proofs.class.is_calendar.Goals as goal

pub returns-then-near-later : goal.returns-then-near-later
returns-then-near-later c =
    Decides-like _
    (λ h. record {
      u = c.args.a.series.underlying;
      k = c.args.a.series.kind;
      strike = c.args.a.series.strike;
      near = c.min-near.result;
      later = c.max-later.result;
      apart = omega arith;
      flat = refl;
      legs_are = rw c.calendar-form.ensures at h;
    })
    (λ v. rw c.calendar-form.ensures (calendar_read c.args.a c.args.b v c.min-near.result c.max-later.result c.min-near.ensures c.max-later.ensures).1)
    c.are_reordered.ensures

pub returns-else-near-later : goal.returns-else-near-later
returns-else-near-later c = (
  λ h. absurd (omega (arith, (Decides-ltb c.min-near.result c.max-later.result).0 h)),
  λ v. (Decides-ltb c.min-near.result c.max-later.result).1 (calendar_read c.args.a c.args.b v c.min-near.result c.max-later.result c.min-near.ensures c.max-later.ensures).0,
)
