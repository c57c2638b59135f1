-- What a row of the worked prices says.
use Rattle.std.specs.Prelude.{◌≡◌, ℕ, List, [], ◌∷◌, ◌++◌, map, ℤ, pos, Ok, Err, Option, Result}
use Rattle.std.specs.List.{AllByRecursion}
use Rattle.strategy.specs.declared.leg.Leg.{Leg}
use Rattle.strategy.specs.declared.leg.Side.{Side}
use Rattle.strategy.specs.declared.leg.Series.{Series}
use Rattle.strategy.specs.declared.class.Strategy.{Strategy}
use Rattle.strategy.specs.declared.price.Buffers.{Buffers}
use Rattle.strategy.specs.Forms.{Classified}
use Rattle.strategy.specs.Prices.{minimum_of, maximum_of}
use Rattle.market.specs.declared.quote.TwoSided.{TwoSided}
use Rattle.market.specs.declared.leg.TradedLeg.{TradedLeg}
use Rattle.market.specs.Levels.{Levels}
use Rattle.market.specs.Net.{net_market}
use Rattle.orders.specs.declared.phase.Phase.TheVariants.{Open}
use Rattle.orders.specs.declared.outcome.Outcome.TheVariants.{Done}
use Rattle.orders.specs.declared.fault.GateFault.{GateFault}
use Rattle.orders.specs.declared.records.LegTerms.{LegTerms}
use Rattle.orders.specs.declared.records.OrderTerms.{OrderTerms}
use Rattle.orders.specs.Checks.{map_ok}
use Rattle.orders.specs.Ranges.{traded_leg}
use Rattle.listing.specs.Resolving.{option_leg}
use Rattle.book.specs.Resting.{nothing}
use Rattle.days.specs.Verdicts.{and_then}
use Rattle.days.specs.State.{State, Line, in_force}
use Rattle.days.specs.Entries.{placed, entering, entered_in}
use Rattle.days.specs.Works.{working}
use Rattle.days.specs.History.{swept, SweepStep}
use Rattle.worked.specs.Words.{Drawn, drawn, plain}

-- an order as entered, and what enter answers: its number, or a refusal
pub record Entry : Type 0 where
  pub side : Side
  -- none for a market order
  pub limit : Option ℤ
  pub quantity : ℕ
  pub answer : Drawn ℕ

abbrev pub enter : Side → Option ℤ → ℕ → Drawn ℕ → Entry
enter side limit quantity answer = record { side = side; limit = limit; quantity = quantity; answer = answer }

-- some legs, what they come to, and the orders entered with them
pub record Priced : Type 0 where
  pub legs : List LegTerms
  pub strategy : Strategy
  pub net : TwoSided ℤ
  pub minimum : Option ℤ
  pub maximum : Option ℤ
  pub entries : List Entry

-- A gate in the phase open, with some series and notices, over a market. The orders are entered one after the other. Then work of an order,
-- if it is the next call, draws its answer; and a sweep, if it is the next, writes the tape and is done.
pub record Row : Type 0 where
  pub series : List Series
  pub notices : List Buffers
  pub market : Levels
  pub priced : List Priced
  -- the number of an order, and the units and the net price that work fills, or a refusal
  pub works : List (ℕ × Drawn (ℕ × ℤ))
  pub tape : List Line

-- What the definitions say of it

abbrev pub start : Row → State
start r = record {
  phase = Open;
  series = r.series;
  notices = r.notices;
  notice_room = 64;
  last = 0;
  count = 0;
  order = nothing;
  tape = [];
  tape_room = 4096;
}

-- the orders entered, with their strategies
abbrev pub orders : List Priced → List (OrderTerms × Strategy)
orders [] = []
orders (p ∷ ps) = map (λ e. (plain e.side e.limit e.quantity p.legs, p.strategy)) p.entries ++ orders ps

abbrev pub answers : List Priced → List (Drawn ℕ)
answers [] = []
answers (p ∷ ps) = map (λ e. e.answer) p.entries ++ answers ps

-- the number of a new order and the gate with it, or why it is refused
abbrev pub entered : State → OrderTerms × Strategy → Result (ℕ × State) GateFault
entered s (o, y) = and_then (placed s o) (λ p. map_ok (λ n. (n, entered_in s n p y)) (entering s p y))

-- a refusal changes nothing
abbrev pub gate_after : State → Result (ℕ × State) GateFault → State
gate_after s (Ok x) = x.1
gate_after s (Err f) = s

abbrev pub all_entered : State → List (OrderTerms × Strategy) → State
all_entered s [] = s
all_entered s (o ∷ os) = all_entered (gate_after s (entered s o)) os

abbrev pub answered : State → List (OrderTerms × Strategy) → List (Drawn ℕ)
answered s [] = []
answered s (o ∷ os) = drawn (λ x. x.0) (entered s o) ∷ answered (gate_after s (entered s o)) os

abbrev pub gate_of : Row → State
gate_of r = all_entered (start r) (orders r.priced)

abbrev pub work_of : Row → ℕ → Drawn (ℕ × ℤ)
work_of r n = drawn (λ f. (f.units, f.net)) (working (gate_of r) r.market (pos n))

abbrev pub traded : Priced → List TradedLeg
traded p = map traded_leg p.legs

abbrev pub options : Row → Priced → List Leg
options r p = map (option_leg r.series) (traded p)

-- the legs are of the strategy, and have this net market as entered, and this Minimum and Maximum
pub record Stands (r : Row) (p : Priced) : Type 0 where
  pub classified : Classified (options r p) p.strategy
  pub net : net_market r.market (traded p) ≡ p.net
  pub minimum : minimum_of p.strategy.class (options r p) (in_force r.notices) ≡ p.minimum
  pub maximum : maximum_of p.strategy.class p.strategy.width (in_force r.notices) ≡ p.maximum

pub record Holds (r : Row) : Type 0 where
  pub prices : AllByRecursion (Stands r) r.priced
  pub enters : answered (start r) (orders r.priced) ≡ answers r.priced
  pub works : AllByRecursion (λ w. work_of r w.0 ≡ w.1) r.works
  pub sweeps : (t : State) × (left : Levels) × SweepStep (gate_of r) r.market (swept r.tape Done) r.tape t left
