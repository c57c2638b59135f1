-- From what the parts of a call do to how the call leads on.
use Rattle.std.proofs.Common.{◌≡◌, ℕ, Bool, true, false, not, List, [], ◌∷◌, ◌++◌, length, drop, ℤ, Some, None, Ok, Err, Option, Result, sym, refl, ap, ◌∙◌, subst, ⊎_elim, arith, MatchResult}
use Rattle.std.proofs.lemmas.List.{drop_all, drop_at}
use Rattle.strategy.specs.declared.class.Strategy.{Strategy}
use Rattle.strategy.specs.Forms.{Classified}
use Rattle.market.specs.Levels.{Levels}
use Rattle.orders.specs.declared.fault.GateFault.{GateFault}
use Rattle.orders.specs.declared.fault.GateFault.TheVariants as gate
use Rattle.orders.specs.declared.bell.Bell.{Bell}
use Rattle.orders.specs.declared.bell.Bell.TheVariants as bell
use Rattle.orders.specs.declared.phase.Phase.{Phase}
use Rattle.orders.specs.declared.records.OrderTerms.{OrderTerms}
use Rattle.orders.specs.declared.records.Channel.{Channel}
use Rattle.orders.specs.declared.records.Channel.TheVariants as channel
use Rattle.orders.specs.Checks.{check, map_ok}
use Rattle.orders.specs.Phases.{after}
use Rattle.orders.specs.TurnedTerms.{Terms, turned_terms}
use Rattle.book.specs.declared.order.RestingOrder.{RestingOrder}
use Rattle.book.specs.Resting.{Resting, resting_of}
use Rattle.fills.specs.declared.fill.Fill.{Fill}
use Rattle.fills.specs.Fillings.{filling_of}
use Rattle.days.specs.declared.call.Call.{Call}
use Rattle.days.specs.declared.reply.Reply.{Reply}
use Rattle.days.specs.declared.reply.Reply.TheVariants as reply
use Rattle.days.specs.Verdicts.{Verdict}
use Rattle.days.specs.declared.reply.Tally.{Tally}
use Rattle.days.specs.State.{State, Line, tape_full, lookup}
use Rattle.days.specs.Works.{is_open, line_for, matched, when_resting, working, Sweeps, volume}
use Rattle.days.specs.Cancels.{rung_by, rung_in}
use Rattle.days.specs.Entries.{placed, kept_in, entering, entered_in}
use Rattle.days.specs.History.{since, order, worked, Refusing, Quiet, Enters, Works, Swept, EnterStep, WorkStep, SweepStep, Step}
use Rattle.days.specs.Laws.{LeadsOn}
use Rattle.orders.proofs.Checked.{by_cases}
use Rattle.days.proofs.Days.{goes_on}
use Rattle.gate_calls.specs.Promises.{Changes, quoted_for, line_with, Settles, Sweeping}

-- The lines written

pub none_since : (s t : State) → t.tape ≡ s.tape → since s t ≡ []
none_since s t same = ap (drop (length s.tape)) same ∙ drop_all (length s.tape) s.tape (omega arith)

since_is : (s t : State) (fs : List Line) → t.tape ≡ s.tape ++ fs → since s t ≡ fs
since_is s t fs is = ap (drop (length s.tape)) is ∙ drop_at s.tape fs (length s.tape) refl

-- A call whose step is known leads on

pub leads_on : (c : Call) (a : Verdict) (s : State) (m : Levels) (t : State) (m' : Levels) → Step s m c a (since s t) t m' → LeadsOn c a s m t m'
leads_on c a s m t m' step = record { step = step; keeps = λ h before. goes_on h s m c a (since s t) t m' before step }

-- the same call and answer under other names
pub as_asked : {c d : Call} {a b : Verdict} {s : State} {m : Levels} {t : State} {m' : Levels} → LeadsOn c a s m t m' → d ≡ c → b ≡ a → LeadsOn d b s m t m'
as_asked {c} {d} {a} {b} {s} {m} {t} {m'} h same is = subst (λ x. LeadsOn x b s m t m') (sym same) (subst (λ x. LeadsOn c x s m t m') (sym is) h)

-- Calls that write no line

module _ {A : Type 0} (v r : Result A GateFault) (f : A → Reply) (s t u : State) (is : r ≡ v) (tape : u.tape ≡ s.tape) where
  same_tape : (x : Result A GateFault) → Changes x s t u → t.tape ≡ s.tape
  same_tape (Ok n) h = ap (λ (y : State). y.tape) h ∙ tape
  same_tape (Err e) h = ap (λ (y : State). y.tape) h

  as_replied : (x : Result A GateFault) → Changes x s t u → MatchResult x (λ n. (map_ok f x ≡ Ok (f n)) × (t ≡ u)) (λ e. Refusing e s (map_ok f x) t)
  as_replied (Ok n) h = (refl, h)
  as_replied (Err e) h = (refl, h)

  pub quiet_step : (m : Levels) → Changes r s t u → Quiet m (since s t) m × MatchResult v (λ n. (map_ok f r ≡ Ok (f n)) × (t ≡ u)) (λ e. Refusing e s (map_ok f r) t)
  quiet_step m h = (
    (none_since s t (same_tape r h), refl),
    subst (λ w. MatchResult w (λ n. (map_ok f r ≡ Ok (f n)) × (t ≡ u)) (λ e. Refusing e s (map_ok f r) t)) is (as_replied r h),
  )

-- a bell writes no line
rung_tape : (s : State) (b : Bell) (v : Option Phase) → (rung_by s b v).tape ≡ s.tape
rung_tape s b None = refl
rung_tape s bell.Open (Some p) = refl
rung_tape s bell.Halt (Some p) = refl
rung_tape s bell.Resume (Some p) = refl
rung_tape s bell.Close (Some p) = refl

pub bell_tape : (s : State) (b : Bell) → (rung_in s b).tape ≡ s.tape
bell_tape s b = rung_tape s b (after s.phase b)

-- an order that is entered writes no line
kept_tape : (s : State) (n : ℕ) (t : Terms) (units : ℕ) (c : Channel) → (kept_in s n t units c).tape ≡ s.tape
kept_tape s n t units channel.Plain = refl
kept_tape s n t units channel.Exempt = refl

pub enter_tape : (s : State) (o : OrderTerms) (a : Verdict) (t : State) → EnterStep s o a t → t.tape ≡ s.tape
enter_tape s o a t d =
    ⊎_elim
    (λ x.
    let p = x.0 in
    let y = x.2.0 in
    ⊎_elim
    (λ w. ap (λ (z : State). z.tape) w.2.1 ∙ kept_tape s w.0 (turned_terms y p.order) p.order.quantity p.order.channel)
    (λ w. ap (λ (z : State). z.tape) w.2.1)
    (by_cases (entering s p y) (λ n. (a ≡ order n y) × (t ≡ entered_in s n p y)) (λ f. Refusing f s a t) x.2.2))
    (λ x. ap (λ (z : State). z.tape) x.2.1)
    (by_cases (placed s o) (λ p. (y : Strategy) × Classified p.options y × Enters s p y a t) (λ f. Refusing f s a t) d)

-- Work

work_refused : (s : State) (m : Levels) (z : ℤ) (f : GateFault) → working s m z ≡ Err f → WorkStep s m z (Err f) (since s s) s m
work_refused s m z f is =
    subst (λ v. MatchResult v (λ g. Works s m g (Err f) (since s s) s m) (λ e. Quiet m (since s s) m × Refusing e s (Err f) s)) (sym is) ((none_since s s refl, refl), (refl, refl))

module _ (s : State) (m : Levels) (z : ℤ) where
  abbrev room_check : Resting → Result Line GateFault
  room_check o = check (not (tape_full s)) gate.TapeFull (matched s m o)

  abbrev rest_check : Bool → Option Resting → Result Line GateFault
  rest_check is v = check is gate.Phase (when_resting v room_check)

  pub not_open : is_open s.phase ≡ false → WorkStep s m z (Err gate.Phase) (since s s) s m
  not_open e = work_refused s m z gate.Phase (ap (λ b. rest_check b (lookup s.order z)) e)

  module _ (opened : is_open s.phase ≡ true) where
    at_order : (v : Option Resting) → v ≡ lookup s.order z → working s m z ≡ when_resting v room_check
    at_order v e = ap (λ b. rest_check b (lookup s.order z)) opened ∙ ap (λ x. when_resting x room_check) (sym e)

    pub not_resting : None ≡ lookup s.order z → WorkStep s m z (Err gate.NotResting) (since s s) s m
    not_resting e = work_refused s m z gate.NotResting (at_order None e)

    module _ (o : RestingOrder) (found : Some (resting_of o) ≡ lookup s.order z) where
      at_room : (full : Bool) → tape_full s ≡ full → working s m z ≡ check (not full) gate.TapeFull (matched s m (resting_of o))
      at_room full e = at_order (Some (resting_of o)) found ∙ ap (λ b. check (not b) gate.TapeFull (matched s m (resting_of o))) e

      pub tape_full_lem : tape_full s ≡ true → WorkStep s m z (Err gate.TapeFull) (since s s) s m
      tape_full_lem e = work_refused s m z gate.TapeFull (at_room true e)

      module _ (free : tape_full s ≡ false) where
        pub not_filled : (f : GateFault) → quoted_for s m o ≡ Err f → WorkStep s m z (Err f) (since s s) s m
        not_filled f e = work_refused s m z f (at_room false free ∙ ap (map_ok (line_for (resting_of o) (length s.notices))) e)

        pub work_done : (f : Fill) (t : State) (m' : Levels) → quoted_for s m o ≡ Ok (filling_of f) → Settles s m (line_with s o f) t m' → WorkStep s m z (worked (line_with s o f)) (since s t) t m'
        work_done f t m' fits (after, left) =
            let line = line_with s o f in
            let is : working s m z ≡ Ok line = at_room false free ∙ ap (map_ok (line_for (resting_of o) (length s.notices))) fits in
            subst (λ v. MatchResult v (λ g. Works s m g (worked line) (since s t) t m') (λ e. Quiet m (since s t) m' × Refusing e s (worked line) t)) (sym is)
            (refl, since_is s t (line ∷ []) (ap (λ (x : State). x.tape) after), after, left)

-- Sweep

module _ (s : State) (m : Levels) where
  pub not_swept : is_open s.phase ≡ false → SweepStep s m (Err gate.Phase) (since s s) s m
  not_swept e =
      subst (λ b. MatchResult (check b gate.Phase (Ok tt)) (λ _. Swept s m (Err gate.Phase) (since s s) s m) (λ f. Quiet m (since s s) m × Refusing f s (Err gate.Phase) s)) (sym e)
      ((none_since s s refl, refl), (refl, refl))

  pub sweep_done : (r : Tally) (t : State) (m' : Levels) → is_open s.phase ≡ true → Sweeping s m r t m' → SweepStep s m (Ok (reply.Sweep r)) (since s t) t m'
  sweep_done r t m' e d =
      let is = since_is s t d.fills d.tape in
      let lines : r.lines ≡ length (since s t) = d.lines ∙ ap length (sym is) in
      let units : r.units ≡ volume (since s t) = d.units ∙ ap volume (sym is) in
      subst (λ b. MatchResult (check b gate.Phase (Ok tt)) (λ _. Swept s m (Ok (reply.Sweep r)) (since s t) t m') (λ f. Quiet m (since s t) m' × Refusing f s (Ok (reply.Sweep r)) t)) (sym e)
      (r.outcome, λ i. Ok (reply.Sweep (record { lines = lines i; units = units i; outcome = r.outcome })), subst (λ l. Sweeps s m l t m') (sym is) d.sweeps, d.ended)
