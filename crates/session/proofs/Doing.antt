-- What is done with a line, put together.
use Rattle.std.proofs.Common.{◌≡◌, ℕ, ◌≤◌, ◌⊎◌, List, length, Ok, Err, Result, sym, ap, subst, inl, inr, arith, length-append, MatchResult}
use Rattle.lines.specs.declared.fault.LineFault.{LineFault}
use Rattle.line_writer.specs.Areas.{Written, TooSmall}
use Rattle.answers.specs.declared.answer.Answer.{Answer}
use Rattle.answers.specs.Said.{said}
use Rattle.commands.specs.declared.command.Command.{Command}
use Rattle.commands.specs.declared.command.Command.TheVariants.{Quote, Level}
use Rattle.market.specs.declared.terms.QuoteTerms.{QuoteTerms}
use Rattle.market.specs.declared.terms.LevelTerms.{LevelTerms}
use Rattle.session.specs.Answering.{Updates, Obeys, Does, Answers}
use Rattle.session.specs.Views.{View}

-- a quote and a level are lines of the market
pub of_market : (c : Command) (x : View) (a : Answer) (y : View) → ((t : QuoteTerms) × (c ≡ Quote t)) ⊎ ((t : LevelTerms) × (c ≡ Level t)) → Updates c x a y → Obeys c x a y
of_market c x a y (inl q) = subst (λ d. Updates d x a y → Obeys d x a y) (sym q.1) (λ u. u)
of_market c x a y (inr l) = subst (λ d. Updates d x a y → Obeys d x a y) (sym l.1) (λ u. u)

-- an area that is large enough takes the answer
pub taken_in : (r : Result ℕ LineFault) (x : View) (line before after : List ℕ) (a b : Answer) (y : View) (P : Type 0) → 160 ≤ length before → a ≡ b → Does x line b y
    → MatchResult r (λ n. Written (said a) before after n) (λ e. TooSmall e before after) → MatchResult r (λ n. Answers x line before after n y) (λ e. TooSmall e before after × P)
taken_in (Ok n) x line before after a b y P room same d w = record { answer = a; written = w; does = subst (λ c. Does x line c y) (sym same) d }
taken_in (Err e) x line before after a b y P room same d t = absurd (omega (arith, t.small))

-- the answer lies in the area
pub inside : (text before after : List ℕ) (n : ℕ) → Written text before after n → n ≤ length after
inside text before after n w = omega (arith, w.count, simp length-append at (ap length w.whole))
