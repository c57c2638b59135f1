-- What the price checks answer of legs, a side and a price as entered.
use Rattle.std.specs.Prelude.{◌≡◌, List, ℤ}
use Rattle.strategy.specs.declared.leg.Side.{Side}
use Rattle.strategy.specs.declared.leg.Leg.{Leg}
use Rattle.strategy.specs.declared.price.Buffers.{Buffers}
use Rattle.strategy.specs.declared.price.Judgement.{Judgement}
use Rattle.strategy.specs.declared.price.Execution.{Execution}
use Rattle.strategy.specs.Legs.{turned_side, turned_legs}
use Rattle.strategy.specs.Forms.{Classified}
use Rattle.strategy.specs.Prices.{turned_price, limit_refusal, prevented_of, LimitLaw, PreventionLaw}

-- The legs have their class and turning, and the refusal is that of the limit in turned terms; of a vertical, butterfly or box it is what
-- the closing values say.
pub record Judged (legs : List Leg) (side : Side) (limit : ℤ) (buffers : Buffers) (j : Judgement) : Type 0 where
  pub classified : Classified legs j.strategy
  pub decided : j.refusal ≡ limit_refusal j.strategy.class j.strategy.width legs (turned_side j.strategy.turned side) (turned_price j.strategy.turned limit) buffers
  pub law : LimitLaw j.strategy.class j.strategy.width (turned_legs j.strategy.turned legs) (turned_price j.strategy.turned limit) buffers j.refusal

-- The same of an execution at a net price.
pub record Executed (legs : List Leg) (side : Side) (price : ℤ) (buffers : Buffers) (x : Execution) : Type 0 where
  pub classified : Classified legs x.strategy
  pub decided : x.prevented ≡ prevented_of x.strategy.class x.strategy.width (turned_side x.strategy.turned side) (turned_price x.strategy.turned price) buffers
  pub law : PreventionLaw x.strategy.class x.strategy.width (turned_legs x.strategy.turned legs) (turned_side x.strategy.turned side) (turned_price x.strategy.turned price) buffers x.prevented
