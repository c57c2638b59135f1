-- The example day: each call answers as the definitions say.
use Rattle.std.proofs.Common.{refl, inl, lit<}
use Rattle.strategy.specs.declared.leg.Kind.TheVariants.{Call}
use Rattle.strategy.specs.declared.class.Class.TheVariants.{Vertical}
use Rattle.strategy.specs.Forms.{vertical, Classified}
use Rattle.days.specs.History.{Leads}
use Rattle.days.proofs.Days.{laws}
use Rattle.worked.specs.Words.{is}
use Rattle.worked.specs.Example.{gate6, market2, lines, morning, ExampleDay}
use Rattle.worked.proofs.Classes.{vertical_form}
use Rattle.worked.proofs.Sweeps.{sweeps}

classified : Classified (vertical 1 Call 2000 2500 26) (is Vertical 500)
classified = inl (vertical_form 1 2000 26 500 (lit< tt) Call)

morning_leads : Leads morning gate6
morning_leads = (
  (
    (
      (
        (
          (
            (
              record { phase = refl; series = refl; notices = refl; last = refl; count = refl; order = λ k. refl; tape = refl },
              ((refl, refl), (refl, refl)),
            ),
            ((refl, refl), (refl, refl)),
          ),
          ((refl, refl), (refl, refl)),
        ),
        ((refl, refl), (is Vertical 500, classified, (refl, refl))),
      ),
      ((refl, refl), (is Vertical 500, classified, (refl, refl))),
    ),
    ((refl, refl), (refl, refl)),
  ),
  ((refl, refl), (refl, refl)),
)

pub example : ExampleDay
example = (
  (morning_leads, sweeps gate6 market2 lines (laws morning gate6 morning_leads).numbered (refl, refl, refl, (refl, refl, refl, refl))),
  ((refl, refl), (refl, refl)),
)
