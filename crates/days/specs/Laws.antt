-- The laws that every day keeps, in words of its calls, answers, markets and tape.
use Rattle.std.specs.Prelude.{◌≡◌, ℕ, suc, ◌+◌, ◌*◌, ◌<◌, ◌≤◌, Bool, cond, ◌⊎◌, List, [], ◌∷◌, ◌++◌, map, length, ℤ, pos, negsuc, ◌+ℤ◌, neg_ℤ, ◌≤ℤ◌, IfSome, Some, None, Ok, Err, Option, Result, ◌==◌, unsigned_abs}
use Rattle.std.specs.List.{AllByRecursion}
use Rattle.strategy.specs.declared.leg.Side.{Side}
use Rattle.strategy.specs.declared.leg.Side.TheVariants.{Buy, Sell}
use Rattle.strategy.specs.declared.leg.Series.{Series}
use Rattle.strategy.specs.declared.leg.Leg.{Leg}
use Rattle.strategy.specs.declared.class.Class.{Class}
use Rattle.strategy.specs.declared.class.Strategy.{Strategy}
use Rattle.strategy.specs.declared.price.Buffers.{Buffers}
use Rattle.strategy.specs.Legs.{turned_side, turned_legs}
use Rattle.strategy.specs.Forms.{Classified}
use Rattle.strategy.specs.Payoff.{signed}
use Rattle.strategy.specs.Prices.{maximum_buffer, turned_price, AllAbove, AllBelow, Exactly, ForBanded, OutOfBand}
use Rattle.market.specs.declared.quote.QuoteSide.{QuoteSide}
use Rattle.market.specs.declared.quote.QuoteSide.TheVariants.{Bid, Offer}
use Rattle.market.specs.declared.quote.TwoSided.{TwoSided}
use Rattle.market.specs.declared.quote.Level.{Level}
use Rattle.market.specs.declared.leg.TradedLeg.{TradedLeg}
use Rattle.market.specs.Levels.{Levels, taken_at}
use Rattle.market.specs.Net.{net_market}
use Rattle.orders.specs.declared.bell.Bell.{Bell}
use Rattle.orders.specs.declared.bell.Bell.TheVariants as bell
use Rattle.orders.specs.declared.fault.GateFault.{GateFault}
use Rattle.orders.specs.declared.records.OrderTerms.{OrderTerms}
use Rattle.orders.specs.declared.records.Channel.TheVariants.{Plain}
use Rattle.orders.specs.Checks.{amount}
use Rattle.orders.specs.Faults.{number_of}
use Rattle.orders.specs.Ranges.{series_of, buffers_of}
use Rattle.orders.specs.SoundLegs.{turned_leg}
use Rattle.orders.specs.TurnedTerms.{turned_limit}
use Rattle.book.specs.Resting.{resting_up_to}
use Rattle.fills.specs.declared.fill.LegFill.{LegFill}
use Rattle.days.specs.declared.call.Call.{Call}
use Rattle.days.specs.declared.call.Call.TheVariants as call
use Rattle.days.specs.declared.reply.Reply.TheVariants as reply
use Rattle.days.specs.Verdicts.{Verdict}
use Rattle.days.specs.State.{State, Line, in_force}
use Rattle.days.specs.Cancels.{open_at, open_units}
use Rattle.days.specs.Entries.{entered_legs, options_of}
use Rattle.days.specs.History.{Event, since, event, order, worked, Step, Leads}

-- Answers

-- the number of a refusal
abbrev pub drawn : {A : Type 0} → Result A GateFault → Option ℕ
drawn (Ok x) = None
drawn (Err f) = Some (number_of f)

-- the answer is the refusal n
abbrev pub Draws : ℕ → Verdict → Type 0
Draws n a = drawn a ≡ Some n

-- the answer is no refusal with a lower number than n
abbrev pub Reaches : ℕ → Verdict → Type 0
Reaches n a = IfSome (drawn a) (λ k. n ≤ k)

-- what an answer that is no refusal accepts
abbrev pub if_accepted : {A : Type 0} → Option ℕ → A → List A
if_accepted None x = x ∷ []
if_accepted (Some n) x = []

-- What the calls so far have set up

abbrev pub listed_by : Call → Verdict → List Series
listed_by (call.Series t) a = if_accepted (drawn a) (series_of t)
listed_by (call.Notice t) a = []
listed_by (call.Phase b) a = []
listed_by (call.Enter o) a = []
listed_by (call.Cancel n) a = []
listed_by (call.Work n) a = []
listed_by call.Sweep a = []

-- the series listed, in their order
abbrev pub listed : List Event → List Series
listed [] = []
listed (e ∷ h) = listed h ++ listed_by e.call e.reply

abbrev pub posted_by : Call → Verdict → List Buffers
posted_by (call.Series t) a = []
posted_by (call.Notice t) a = if_accepted (drawn a) (buffers_of t)
posted_by (call.Phase b) a = []
posted_by (call.Enter o) a = []
posted_by (call.Cancel n) a = []
posted_by (call.Work n) a = []
posted_by call.Sweep a = []

-- the notices accepted, in their order; the last of them is in force
abbrev pub posted : List Event → List Buffers
posted [] = []
posted (e ∷ h) = posted h ++ posted_by e.call e.reply

-- an order as entered, its legs as options, and the strategy that they are
pub record Entry : Type 0 where
  pub terms : OrderTerms
  pub options : List Leg
  pub strategy : Strategy

abbrev pub quantity_of : Entry → ℕ
quantity_of x = amount x.terms.quantity

abbrev pub side_of : Entry → Side
side_of x = turned_side x.strategy.turned x.terms.side

abbrev pub limit_of : Entry → Option ℤ
limit_of x = turned_limit x.strategy.turned x.terms.limit

-- the legs by the numbers of their series, in turned terms
abbrev pub legs_of : Entry → List TradedLeg
legs_of x = map (turned_leg x.strategy.turned) (entered_legs x.terms)

-- after the calls h the call e accepts the order x under the number n
pub record Accepts (h : List Event) (e : Event) (n : ℕ) (x : Entry) : Type 0 where
  pub asked : e.call ≡ call.Enter x.terms
  pub answered : e.reply ≡ order n x.strategy
  pub plain : x.terms.channel ≡ Plain
  pub options : x.options ≡ options_of (listed h) x.terms
  pub classified : Classified x.options x.strategy

-- one of the calls accepted the order x under the number n
abbrev pub Accepted : List Event → ℕ → Entry → Type 0
Accepted [] n x = ⊥
Accepted (e ∷ h) n x = Accepts h e n x ⊎ Accepted h n x

-- A plain order that is accepted is accepted under the class of its legs.
abbrev pub EntryKnown : List Event → Event → Type 0
EntryKnown h e =
    (o : OrderTerms) (n : ℕ) (c : Class) →
    e.call ≡ call.Enter o → o.channel ≡ Plain → e.reply ≡ Ok (reply.Order (record { number = n; class = c })) → (x : Entry) × Accepts h e n x

-- what holds of every call, with the calls before it
abbrev pub Each : (List Event → Event → Type 0) → List Event → Type 0
Each P [] = Unit {0}
Each P (e ∷ h) = P h e × Each P h

-- The protections

-- A limit order draws 26 exactly when every closing value lies above its limit by more than the Minimum Value Buffer in force, and 27
-- exactly when every closing value lies below it by more than the Maximum Value Buffer in force, unless it fails an earlier check.
abbrev pub LimitHeld : List Event → Event → Type 0
LimitHeld h e =
    (o : OrderTerms) (limit : ℤ) (y : Strategy) →
    e.call ≡ call.Enter o → o.channel ≡ Plain → o.limit ≡ Some limit → Classified (options_of (listed h) o) y →
    ForBanded y.class (in_force (posted h)) (λ b.
    (Reaches 26 e.reply → Exactly (Draws 26 e.reply) (AllAbove (turned_legs y.turned (options_of (listed h) o)) (turned_price y.turned limit) b.minimum))
    × (Reaches 27 e.reply → Exactly (Draws 27 e.reply) (AllBelow (turned_legs y.turned (options_of (listed h) o)) (turned_price y.turned limit) (maximum_buffer b y.width))))

-- the net price that a side takes: a buy the net offer, a sell the net bid
abbrev pub taking : Side → TwoSided ℤ → Option ℤ
taking Buy net = net.offer
taking Sell net = net.bid

-- what the order x takes of the net market of its turned legs
abbrev pub net_for : Levels → Entry → Option ℤ
net_for m x = taking (side_of x) (net_market m (legs_of x))

-- the call filled some units of the order n at a net price
pub record Filled (n : ℕ) (net : ℤ) (e : Event) : Type 0 where
  pub line : Line
  pub written : e.fills ≡ line ∷ []
  pub own : line.number ≡ n
  pub some : 0 < line.units
  pub at : line.net ≡ net
  pub answered : e.reply ≡ worked line

-- Work of an order has a net price; of a vertical, butterfly or box it draws 34 exactly when no closing value together with the buffer in
-- force reaches that price; and what it does not prevent fills.
pub record Prevention (n : ℕ) (x : Entry) (buffers : Buffers) (e : Event) : Type 0 where
  pub net : ℤ
  pub shown : net_for e.market x ≡ Some net
  pub prevents : ForBanded x.strategy.class buffers (λ b. Exactly (Draws 34 e.reply) (OutOfBand (side_of x) x.strategy.width (turned_legs x.strategy.turned x.options) net b))
  pub fills : (Draws 34 e.reply → ⊥) → Filled n net e

-- unless work fails an earlier check
abbrev pub PreventionHeld : List Event → Event → Type 0
PreventionHeld h e = (n : ℕ) (x : Entry) → e.call ≡ call.Work (pos n) → Accepted h n x → Reaches 34 e.reply → Prevention n x (in_force (posted h)) e

-- Units

-- units on the tape of the lines with the number n
abbrev pub units_on : List Line → ℕ → ℕ
units_on [] n = 0
units_on (f ∷ fs) n = cond (f.number == n) f.units 0 + units_on fs n

abbrev pub cancel_answer : Verdict → Option ℕ
cancel_answer (Ok (reply.Series n)) = None
cancel_answer (Ok (reply.Notice n)) = None
cancel_answer (Ok (reply.Phase b units)) = None
cancel_answer (Ok (reply.Order x)) = None
cancel_answer (Ok (reply.Cancel units)) = Some units
cancel_answer (Ok (reply.Work x)) = None
cancel_answer (Ok (reply.Sweep x)) = None
cancel_answer (Err f) = None

abbrev pub of_order : ℤ → ℕ → Option ℕ → Option ℕ
of_order (pos k) n u = cond (k == n) u None
of_order (negsuc k) n u = None

-- what a bell that was not refused found open of the order n, if it is close
abbrev pub closed_units : Bell → Option ℕ → Option ℕ → Option ℕ
closed_units bell.Open refused found = None
closed_units bell.Halt refused found = None
closed_units bell.Resume refused found = None
closed_units bell.Close None found = found
closed_units bell.Close (Some number) found = None

-- the units that one call cancelled of the order n
abbrev pub cancelled_by : Call → Verdict → State → ℕ → Option ℕ
cancelled_by (call.Series t) a s n = None
cancelled_by (call.Notice t) a s n = None
cancelled_by (call.Phase b) a s n = closed_units b (drawn a) (open_at s n)
cancelled_by (call.Enter o) a s n = None
cancelled_by (call.Cancel k) a s n = of_order k n (cancel_answer a)
cancelled_by (call.Work k) a s n = None
cancelled_by call.Sweep a s n = None

abbrev pub or_else : Option ℕ → ℕ → ℕ
or_else None m = m
or_else (Some n) m = n

-- what the cancel of the order n answered, or what close found open of it, else 0
abbrev pub cancelled : List Event → ℕ → ℕ
cancelled [] n = 0
cancelled (e ∷ h) n = or_else (cancelled_by e.call e.reply e.before n) (cancelled h n)

-- The tape

-- all lines that the calls wrote, the oldest first
abbrev pub written : List Event → List Line
written [] = []
written (e ∷ h) = written h ++ e.fills

-- a signed ratio times a price
abbrev pub times_price : ℤ → ℕ → ℤ
times_price (pos n) price = pos (n * price)
times_price (negsuc n) price = neg_ℤ (pos (suc n * price))

abbrev pub net_of : List LegFill → ℤ
net_of [] = pos 0
net_of (l ∷ ls) = times_price l.ratio l.price +ℤ net_of ls

-- a buy is at most its limit, a sell at least
abbrev pub WithinLimit : Side → ℤ → Option ℤ → Type 0
WithinLimit side net None = Unit {0}
WithinLimit Buy net (Some limit) = net ≤ℤ limit
WithinLimit Sell net (Some limit) = limit ≤ℤ net

-- the series and the signed ratio of a leg of a line
abbrev pub filled_terms : LegFill → ℕ × ℤ
filled_terms l = (l.series, l.ratio)

-- the same of a leg as entered, in turned terms: minus if sold
abbrev pub turned_terms : Bool → TradedLeg → ℕ × ℤ
turned_terms turned g = (g.series, signed (turned_side turned g.side) g.ratio)

-- a line written after the calls h is of an order that they accepted, in turned terms, within its limit and not prevented
pub record Owned (h : List Event) (f : Line) : Type 0 where
  pub entry : Entry
  pub accepted : Accepted h f.number entry
  pub class : f.class ≡ entry.strategy.class
  pub side : f.side ≡ side_of entry
  pub legs : map filled_terms f.legs ≡ map (turned_terms entry.strategy.turned) (entered_legs entry.terms)
  pub net : f.net ≡ net_of f.legs
  pub within : WithinLimit f.side f.net (limit_of entry)
  -- some closing value together with the buffer in force then reaches the net price
  pub protected : ForBanded entry.strategy.class (in_force (posted h)) (λ b. OutOfBand f.side entry.strategy.width (turned_legs entry.strategy.turned entry.options) f.net b → ⊥)
  -- the notice in force then
  pub notice : f.notice ≡ length (posted h)

-- the side of a leg's market that a line takes from, by the line's side and the leg's signed ratio
abbrev pub taken_from : Side → ℤ → QuoteSide
taken_from Buy (pos n) = Offer
taken_from Buy (negsuc n) = Bid
taken_from Sell (pos n) = Bid
taken_from Sell (negsuc n) = Offer

-- the first level shows this price, and has these contracts
abbrev pub FirstShows : List Level → ℕ → ℕ → Type 0
FirstShows [] price n = ⊥
FirstShows (v ∷ vs) price n = (v.price ≡ price) × (0 < n) × (n ≤ v.size)

-- a market after some units of a leg are taken: ratio times units from the first level of its series and side, and nothing else
abbrev pub leg_less : Levels → Side → ℕ → LegFill → Levels
leg_less m side units l = taken_at m l.series (taken_from side l.ratio) (unsigned_abs l.ratio * units)

-- the legs take, one after the other, from m and leave m'
abbrev pub LegsTake : Levels → Side → ℕ → List LegFill → Levels → Type 0
LegsTake m side units [] m' = m' ≡ m
LegsTake m side units (l ∷ ls) m' =
    FirstShows (m l.series (taken_from side l.ratio)) l.price (unsigned_abs l.ratio * units) × LegsTake (leg_less m side units l) side units ls m'

-- the lines take, in their order, ratio times units of every leg, and nothing else is taken
abbrev pub Takes : Levels → List Line → Levels → Type 0
Takes m [] m' = m' ≡ m
Takes m (f ∷ fs) m' = (n : Levels) × LegsTake m f.side f.units f.legs n × Takes n fs m'

-- The laws of the calls h, that led to the state s

pub record Laws (h : List Event) (s : State) : Type 0 where
  pub known : Each EntryKnown h
  pub limits : Each LimitHeld h
  pub prevention : Each PreventionHeld h
  -- no unit of an order is lost or made up: its quantity is what is on the tape, what is open and what was cancelled
  pub conserved : (n : ℕ) (x : Entry) → Accepted h n x → quantity_of x ≡ units_on s.tape n + (open_units s n + cancelled h n)
  -- at most 64 orders rest, all of them numbered
  pub few : resting_up_to s.order s.last ≤ 64
  pub numbered : (n : ℕ) → s.last < n → s.order n ≡ None
  -- the tape is what the calls wrote, so that an earlier line never changes
  pub tape : s.tape ≡ written h
  pub owned : Each (λ g e. AllByRecursion (Owned g) e.fills) h
  -- each call takes from its market what its lines say
  pub takes : Each (λ g e. Takes e.market e.fills e.left) h

-- the calls lead to this state, and keep the laws
pub record Lawful (h : List Event) (s : State) : Type 0 where
  pub leads : Leads h s
  pub laws : Laws h s

-- The law of the day, of one call that meets the gate s and the market m, answers a, and leaves t and m': it answers and leaves just what is
-- defined, and whatever calls, over whatever markets, led a new gate to s, this call leads on to t, and the whole day keeps the laws.
pub record LeadsOn (c : Call) (a : Verdict) (s : State) (m : Levels) (t : State) (m' : Levels) : Type 0 where
  pub step : Step s m c a (since s t) t m'
  pub keeps : (h : List Event) → Leads h s → Lawful (event c a s m t m' ∷ h) t
