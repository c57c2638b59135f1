use Rattle.std.proofs.Common.{◌≡◌, true, false, List, ◌∙◌, inl}
use Rattle.strategy.specs.declared.leg.Leg.{Leg}
use Rattle.strategy.specs.declared.class.Strategy.{Strategy}
use Rattle.strategy.specs.Few.{listed}
use Rattle.strategy.specs.Forms.{Classified, Long}
use Rattle.strategy.specs.Legs.{turned_legs}
use Rattle.strategy.proofs.Unique.{unique}
use Rattle.strategy.proofs.class.Strategy.of.Goals as goal

-- the strategy of legs that are a long form, turned or not
long : (legs form : List Leg) (s : Strategy) → form ≡ turned_legs s.turned legs → Long s.class s.width form → record { classified : Classified legs s; only : (o : Strategy) → Classified legs o → o ≡ s }
long legs form s e v =
    let w : Classified legs s = inl (rw e at v) in record { classified = w; only = λ o. unique legs s o w }

pub returns-in-Some : goal.returns-in-Some
returns-in-Some c =
    long (listed c.args.legs.now) _ record { class = c.in-Some.field-0.class; width = c.in-Some.field-0.width; turned = false }
    c.as_slice.ensures.value c.in-Some.ensures

pub returns-in-Some-long_form : goal.returns-in-Some-long_form
returns-in-Some-long_form c =
    long (listed c.args.legs.now) _ record { class = c.in-Some-long_form.field-0.class; width = c.in-Some-long_form.field-0.width; turned = true }
    (c.as_slice-in_default.ensures.value ∙ c.flipped_legs.ensures) c.in-Some-long_form.ensures
