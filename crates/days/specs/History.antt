-- A day of calls, and how each leads from one state to the next.
use Rattle.std.specs.Prelude.{◌≡◌, ℕ, List, [], ◌∷◌, length, drop, ℤ, None, Ok, Err, Result, MatchResult}
use Rattle.strategy.specs.declared.class.Strategy.{Strategy}
use Rattle.strategy.specs.Forms.{Classified}
use Rattle.market.specs.Levels.{Levels}
use Rattle.orders.specs.declared.phase.Phase.TheVariants as phase
use Rattle.orders.specs.declared.outcome.Outcome.{Outcome}
use Rattle.orders.specs.declared.fault.GateFault.{GateFault}
use Rattle.orders.specs.declared.fault.GateFault.TheVariants as gate
use Rattle.orders.specs.declared.records.OrderTerms.{OrderTerms}
use Rattle.orders.specs.Checks.{check}
use Rattle.days.specs.declared.call.Call.{Call}
use Rattle.days.specs.declared.call.Call.TheVariants as call
use Rattle.days.specs.declared.reply.Reply.TheVariants as reply
use Rattle.days.specs.Verdicts.{Verdict}
use Rattle.days.specs.State.{State, Line}
use Rattle.days.specs.Listings.{listing, listed_in, posting, posted_in}
use Rattle.days.specs.Cancels.{cancelling, cancelled_in, ringing, rung_in}
use Rattle.days.specs.Entries.{Placed, placed, entering, entered_in}
use Rattle.days.specs.Works.{is_open, working, filled_in, filled_from, Sweeps, Ended, volume}

-- A call as seen from outside: what was asked and answered, the gate before it, the market before and after, and the lines
-- that it wrote at the end of the tape. Between two calls the market may become any other.
pub record Event : Type 0 where
  pub call : Call
  pub reply : Verdict
  pub before : State
  pub market : Levels
  pub left : Levels
  pub fills : List Line

-- the lines written between two states: those at the end of the tape
abbrev pub since : State → State → List Line
since s t = drop (length s.tape) t.tape

-- a call that led from the gate s and the market m to t and m'
abbrev pub event : Call → Verdict → State → Levels → State → Levels → Event
event c a s m t m' = record { call = c; reply = a; before = s; market = m; left = m'; fills = since s t }

-- what enter, work and sweep answer

abbrev pub order : ℕ → Strategy → Verdict
order n y = Ok (reply.Order (record { number = n; class = y.class }))

abbrev pub worked : Line → Verdict
worked f = Ok (reply.Work (record { units = f.units; net = f.net }))

abbrev pub swept : List Line → Outcome → Verdict
swept fs end = Ok (reply.Sweep (record { lines = length fs; units = volume fs; outcome = end }))

-- a refusal changes nothing
abbrev pub Refusing : GateFault → State → Verdict → State → Type 0
Refusing f s a t = (a ≡ Err f) × (t ≡ s)

-- the call writes no line and takes nothing
abbrev pub Quiet : Levels → List Line → Levels → Type 0
Quiet m fs m' = (fs ≡ []) × (m' ≡ m)

-- an order past the checks that need no price, whose legs are of the strategy y
abbrev pub Enters : State → Placed → Strategy → Verdict → State → Type 0
Enters s p y a t = MatchResult (entering s p y) (λ n. (a ≡ order n y) × (t ≡ entered_in s n p y)) (λ f. Refusing f s a t)

-- work writes one line
abbrev pub Works : State → Levels → Line → Verdict → List Line → State → Levels → Type 0
Works s m f a fs t m' = (a ≡ worked f) × (fs ≡ f ∷ []) × (t ≡ filled_in s f) × (m' ≡ filled_from s m f)

abbrev pub Swept : State → Levels → Verdict → List Line → State → Levels → Type 0
Swept s m a fs t m' = (end : Outcome) × (a ≡ swept fs end) × Sweeps s m fs t m' × Ended end t m'

abbrev pub sweeping : State → Result (Unit {0}) GateFault
sweeping s = check (is_open s.phase) gate.Phase (Ok tt)

-- How enter, work and sweep answer, and what they leave.

abbrev pub EnterStep : State → OrderTerms → Verdict → State → Type 0
EnterStep s o a t = MatchResult (placed s o) (λ p. (y : Strategy) × Classified p.options y × Enters s p y a t) (λ f. Refusing f s a t)

abbrev pub WorkStep : State → Levels → ℤ → Verdict → List Line → State → Levels → Type 0
WorkStep s m n a fs t m' = MatchResult (working s m n) (λ f. Works s m f a fs t m') (λ f. Quiet m fs m' × Refusing f s a t)

abbrev pub SweepStep : State → Levels → Verdict → List Line → State → Levels → Type 0
SweepStep s m a fs t m' = MatchResult (sweeping s) (λ _. Swept s m a fs t m') (λ f. Quiet m fs m' × Refusing f s a t)

-- How each call answers, and what it leaves.
abbrev pub Step : State → Levels → Call → Verdict → List Line → State → Levels → Type 0
Step s m (call.Series x) a fs t m' = Quiet m fs m' × MatchResult (listing s x) (λ n. (a ≡ Ok (reply.Series n)) × (t ≡ listed_in s x)) (λ f. Refusing f s a t)
Step s m (call.Notice x) a fs t m' = Quiet m fs m' × MatchResult (posting s x) (λ n. (a ≡ Ok (reply.Notice n)) × (t ≡ posted_in s x)) (λ f. Refusing f s a t)
Step s m (call.Phase b) a fs t m' = Quiet m fs m' × MatchResult (ringing s b) (λ units. (a ≡ Ok (reply.Phase b units)) × (t ≡ rung_in s b)) (λ f. Refusing f s a t)
Step s m (call.Enter o) a fs t m' = Quiet m fs m' × EnterStep s o a t
Step s m (call.Cancel n) a fs t m' = Quiet m fs m' × MatchResult (cancelling s n) (λ units. (a ≡ Ok (reply.Cancel units)) × (t ≡ cancelled_in s n)) (λ f. Refusing f s a t)
Step s m (call.Work n) a fs t m' = WorkStep s m n a fs t m'
Step s m call.Sweep a fs t m' = SweepStep s m a fs t m'

-- a new gate, whatever room its memory has
pub record New (s : State) : Type 0 where
  pub phase : s.phase ≡ phase.Pre
  pub series : s.series ≡ []
  pub notices : s.notices ≡ []
  pub last : s.last ≡ 0
  pub count : s.count ≡ 0
  pub order : (k : ℕ) → s.order k ≡ None
  pub tape : s.tape ≡ []

-- The calls h, the newest first, lead a new gate to the state s.
abbrev pub Leads : List Event → State → Type 0
Leads [] s = New s
Leads (e ∷ h) t = Leads h e.before × Step e.before e.market e.call e.reply e.fills t e.left
