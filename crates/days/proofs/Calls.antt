-- What one call adds to the laws.
use Rattle.std.proofs.Common.{◌≡◌, ℕ, ◌+◌, ◌≤◌, false, cond, not, eqb, leb, ◌⊎◌, List, [], ◌∷◌, ◌++◌, length, ℤ, pos, negsuc, IfSome, Some, None, Ok, Err, Option, sym, refl, ap, ◌∙◌, subst, inl, inr, ⊎_elim, arith}
use Rattle.book.specs.Resting.{open_units as units_open}
use Rattle.std.specs.List.{AllByRecursion}
use Rattle.std.proofs.lemmas.List.{append-nil}
use Rattle.std.proofs.lemmas.Option.{MatchOption-at_some}
use Rattle.std.proofs.lemmas.Bool.{both_ways, not-true, cases_eq, cases_Bool, cond-true, cond-false, cond_both, eq-eqb, ne_eqb, leb-false}
use Rattle.strategy.specs.declared.class.Strategy.{Strategy}
use Rattle.strategy.specs.Forms.{Classified}
use Rattle.strategy.proofs.Unique.{unique}
use Rattle.market.specs.Levels.{Levels}
use Rattle.orders.specs.declared.phase.Phase.{Phase}
use Rattle.orders.specs.declared.phase.Phase.TheVariants as phase
use Rattle.orders.specs.declared.bell.Bell.{Bell}
use Rattle.orders.specs.declared.bell.Bell.TheVariants as bell
use Rattle.orders.specs.declared.fault.GateFault.{GateFault}
use Rattle.orders.specs.declared.fault.GateFault.TheVariants as gate
use Rattle.orders.specs.declared.records.SeriesTerms.{SeriesTerms}
use Rattle.orders.specs.declared.records.NoticeTerms.{NoticeTerms}
use Rattle.orders.specs.declared.records.OrderTerms.{OrderTerms}
use Rattle.orders.specs.declared.records.Channel.{Channel}
use Rattle.orders.specs.declared.records.Channel.TheVariants as channel
use Rattle.orders.specs.Checks.{check}
use Rattle.orders.specs.Faults.{number_of}
use Rattle.orders.specs.Ranges.{series_of, buffers_of}
use Rattle.orders.specs.Phases.{after}
use Rattle.orders.specs.TurnedTerms.{turned_terms}
use Rattle.orders.proofs.Soundness.{turned_sound}
use Rattle.book.specs.Resting.{Resting, put, nothing, one}
use Rattle.book.proofs.Looks.{put_here, put_other}
use Rattle.book.proofs.Totals.{none_rest}
use Rattle.fills.specs.Fillings.{filling}
use Rattle.days.specs.declared.call.Call.{Call}
use Rattle.days.specs.declared.call.Call.TheVariants as call
use Rattle.days.specs.declared.reply.Acceptance.{Acceptance}
use Rattle.days.specs.Verdicts.{Verdict}
use Rattle.days.specs.declared.reply.Reply.TheVariants as reply
use Rattle.days.specs.State.{State, Line, in_force, lookup, with_phase}
use Rattle.days.specs.Listings.{is_closed, listing, listed_in, posting, posted_in}
use Rattle.days.specs.Cancels.{resting_units, cancelling, cancelled_in, ok_units, open_at, or_zero, open_units, rung_units, ringing, units_cancelled, rung_to, rung_by, rung_in}
use Rattle.days.specs.Entries.{options_of, entered_as, entered_legs, price_check, numbering, entering, kept_in, entered_in}
use Rattle.days.specs.Works.{terms_in, line_for, matched, working, filled_in, filled_from}
use Rattle.days.specs.History.{Event, order, Refusing, Quiet, Works, Swept, sweeping, Step}
use Rattle.days.specs.Laws.{listed_by, listed, posted_by, posted, Entry, quantity_of, Accepts, EntryKnown, LimitHeld, PreventionHeld, of_order, closed_units, cancelled_by, Owned, Takes}
use Rattle.orders.proofs.Checked.{by_cases, check_ok, map_ok_lem, err_ok, same_ok, some_none}
use Rattle.days.proofs.Checked.{Passed, fault_ok}
use Rattle.days.proofs.Fills.{work_cases}
use Rattle.days.proofs.Orders.{resting_as, Orders, cancels, leave_orders, enter_orders}
use Rattle.days.proofs.Counts.{count_new, count_cancel}
use Rattle.days.proofs.Protect.{as_event, placed_by, same_order, enter_cases, limit_held}
use Rattle.days.proofs.Prevent.{prevention_held}
use Rattle.days.proofs.Chain.{Core, Lines, sweep_lines, lines_core, lines_tape, lines_owned, lines_takes}

-- what a call keeps of the laws of entry and of prevention
pub record Guarded (h : List Event) (e : Event) : Type 0 where
  pub known : EntryKnown h e
  pub limit : LimitHeld h e
  pub prevention : PreventionHeld h e

pub record Said (h : List Event) (e : Event) (t : State) : Type 0 where
  pub core : Core (e ∷ h) t
  pub guarded : Guarded h e
  pub tape : t.tape ≡ e.before.tape ++ e.fills
  pub owned : AllByRecursion (Owned h) e.fills
  pub takes : Takes e.market e.fills e.left

-- Calls that they do not concern

-- which call it is
abbrev rank : Call → ℕ
rank (call.Series t) = 0
rank (call.Notice t) = 1
rank (call.Phase b) = 2
rank (call.Enter o) = 3
rank (call.Cancel n) = 4
rank (call.Work n) = 5
rank call.Sweep = 6

module _ (h : List Event) (e : Event) where
  not_entry : (rank e.call ≡ 3 → ⊥) → EntryKnown h e
  not_entry ne o n c asked = absurd (ne (ap rank asked))

  not_limit : (rank e.call ≡ 3 → ⊥) → LimitHeld h e
  not_limit ne o limit y asked = absurd (ne (ap rank asked))

  not_work : (rank e.call ≡ 5 → ⊥) → PreventionHeld h e
  not_work ne n x asked = absurd (ne (ap rank asked))

  none_accepted : (rank e.call ≡ 3 → ⊥) → (n : ℕ) (x : Entry) → Accepts h e n x → ⊥
  none_accepted ne n x q = ne (ap rank q.asked)

  neither : (rank e.call ≡ 3 → ⊥) → (rank e.call ≡ 5 → ⊥) → Guarded h e
  neither no_enter no-work = record { known = not_entry no_enter; limit = not_limit no_enter; prevention = not_work no-work }

-- Calls that accept, cancel, list and post nothing

record Still (h : List Event) (e : Event) : Type 0 where
  accepts_none : (n : ℕ) (x : Entry) → Accepts h e n x → ⊥
  cancels_none : (n : ℕ) → cancels e n ≡ None
  lists_none : listed_by e.call e.reply ≡ []
  posts_none : posted_by e.call e.reply ≡ []

nothing_more : {A : Type 0} (xs ys zs : List A) → xs ≡ ys → zs ≡ [] → xs ≡ ys ++ zs
nothing_more xs ys zs e none = e ∙ sym (append-nil ys) ∙ ap (λ l. ys ++ l) (sym none)

orders_stay : (h : List Event) (s : State) (e : Event) → Orders h s.last s.order s.tape → ((n : ℕ) (x : Entry) → Accepts h e n x → ⊥) → ((n : ℕ) → cancels e n ≡ None) → Orders (e ∷ h) s.last s.order s.tape
orders_stay h s e k none quiet = leave_orders h s.last s.order s.tape k e s.order none (λ n. inl (record { same = refl; none = quiet n }))

still_core : (h : List Event) (s : State) (e : Event) → Still h e → Core h s → Core (e ∷ h) s
still_core h s e q k = record {
  series = nothing_more s.series (listed h) (listed_by e.call e.reply) k.series q.lists_none;
  notices = nothing_more s.notices (posted h) (posted_by e.call e.reply) k.notices q.posts_none;
  orders = orders_stay h s e k.orders q.accepts_none q.cancels_none;
  closed = k.closed;
  counted = k.counted;
  few = k.few;
}

-- Refusals

none_closed : (b : Bell) (n : ℕ) (found : Option ℕ) → closed_units b (Some n) found ≡ None
none_closed bell.Open n found = refl
none_closed bell.Halt n found = refl
none_closed bell.Resume n found = refl
none_closed bell.Close n found = refl

none_of : (z : ℤ) (n : ℕ) → of_order z n None ≡ None
none_of (pos k) n = cond_both (eqb k n) None None (λ v. v ≡ None) (λ e. refl) (λ e. refl)
none_of (negsuc k) n = refl

refused_cancels : (c : Call) (f : GateFault) (s : State) (n : ℕ) → cancelled_by c (Err f) s n ≡ None
refused_cancels (call.Series t) f s n = refl
refused_cancels (call.Notice t) f s n = refl
refused_cancels (call.Phase b) f s n = none_closed b (number_of f) (open_at s n)
refused_cancels (call.Enter o) f s n = refl
refused_cancels (call.Cancel z) f s n = none_of z n
refused_cancels (call.Work z) f s n = refl
refused_cancels call.Sweep f s n = refl

refused_lists : (c : Call) (f : GateFault) → listed_by c (Err f) ≡ []
refused_lists (call.Series t) f = refl
refused_lists (call.Notice t) f = refl
refused_lists (call.Phase b) f = refl
refused_lists (call.Enter o) f = refl
refused_lists (call.Cancel z) f = refl
refused_lists (call.Work z) f = refl
refused_lists call.Sweep f = refl

refused_posts : (c : Call) (f : GateFault) → posted_by c (Err f) ≡ []
refused_posts (call.Series t) f = refl
refused_posts (call.Notice t) f = refl
refused_posts (call.Phase b) f = refl
refused_posts (call.Enter o) f = refl
refused_posts (call.Cancel z) f = refl
refused_posts (call.Work z) f = refl
refused_posts call.Sweep f = refl

refused_still : (h : List Event) (c : Call) (a : Verdict) (f : GateFault) (s : State) (m : Levels) (fs : List Line) (m' : Levels) → a ≡ Err f → Still h (as_event c a s m fs m')
refused_still h c a f s m fs m' is =
    subst (λ b. Still h (as_event c b s m fs m')) (sym is) (record {
      accepts_none = λ n x p. err_ok f _ p.answered;
      cancels_none = refused_cancels c f s;
      lists_none = refused_lists c f;
      posts_none = refused_posts c f;
    })

-- What is open

option_cases : (v : Option Resting) → (v ≡ None) ⊎ ((o : Resting) × (v ≡ Some o))
option_cases None = inl refl
option_cases (Some o) = inr (o, refl)

-- while the gate is not closed, cancel would answer what an order has open
open_while : (s : State) (n : ℕ) → is_closed s.phase ≡ false → open_at s n ≡ ok_units (resting_units (s.order n))
open_while s n e = ap (λ b. ok_units (check (not b) gate.Phase (resting_units (s.order n)))) e

open_resting : (v : Option Resting) → or_zero (ok_units (resting_units v)) ≡ units_open v
open_resting None = refl
open_resting (Some o) = refl

pub open_is : (h : List Event) (s : State) → Core h s → (n : ℕ) → open_units s n ≡ units_open (s.order n)
open_is h s k n =
    ⊎_elim
    (λ e. ap (λ b. or_zero (ok_units (check (not b) gate.Phase (resting_units (s.order n))))) e ∙ sym (ap units_open (k.closed e n)))
    (λ e. ap or_zero (open_while s n e) ∙ open_resting (s.order n))
    (cases_Bool (is_closed s.phase))

-- Bells

-- only close leads to the phase closed, and not from there
opened : (p : Phase) → IfSome (after p bell.Open) (λ q. is_closed q ≡ false)
opened phase.Pre = refl
opened phase.Open = tt
opened phase.Halt = tt
opened phase.Closed = tt

halted : (p : Phase) → IfSome (after p bell.Halt) (λ q. is_closed q ≡ false)
halted phase.Pre = tt
halted phase.Open = refl
halted phase.Halt = tt
halted phase.Closed = tt

resumed : (p : Phase) → IfSome (after p bell.Resume) (λ q. is_closed q ≡ false)
resumed phase.Pre = tt
resumed phase.Open = tt
resumed phase.Halt = refl
resumed phase.Closed = tt

was_open : (p : Phase) → IfSome (after p bell.Close) (λ q. is_closed p ≡ false)
was_open phase.Pre = refl
was_open phase.Open = refl
was_open phase.Halt = refl
was_open phase.Closed = tt

rung_ok : (v : Option Phase) (units u : ℕ) → rung_units v units ≡ Ok u → (p : Phase) × (v ≡ Some p)
rung_ok None units u e = absurd (err_ok gate.Phase u e)
rung_ok (Some p) units u e = (p, refl)

-- Cancel

resting_found : (v : Option Resting) (u : ℕ) → resting_units v ≡ Ok u → (o : Resting) × (v ≡ Some o) × (u ≡ o.remaining)
resting_found None u e = absurd (err_ok gate.NotResting u e)
resting_found (Some o) u e = (o, refl, cc)

-- Enter

same_number : (x y : Acceptance) → ◌≡◌ {A = Verdict} (Ok (reply.Order x)) (Ok (reply.Order y)) → x.number ≡ y.number
same_number x y e = let same : x ≡ y = cc in ap (λ (z : Acceptance). z.number) same

plain_exempt : channel.Plain ≡ channel.Exempt → ⊥
plain_exempt e = let z : ◌≡◌ {A = ℕ} 0 1 = cc in omega arith

numbered : (s : State) (n : ℕ) → numbering s channel.Plain ≡ Ok n → (s.count + 1 ≤ 64) × (n ≡ s.last + 1)
numbered s n e =
    let room = check_ok (not (leb 64 s.count)) gate.BookFull (check (not (leb 50000 s.last)) gate.NumbersUsedUp (Ok (s.last + 1))) n e in
    let more = check_ok (not (leb 50000 s.last)) gate.NumbersUsedUp (Ok (s.last + 1)) n room.1 in
    (omega (arith, leb-false 64 s.count (not-true (leb 64 s.count) room.0)), sym (same_ok (s.last + 1) n more.1))

-- Every call

module _ (h : List Event) (s : State) (k : Core h s) (a : Verdict) (m m' : Levels) (fs : List Line) (t : State) where
  abbrev by : Call → Event
  by c = as_event c a s m fs m'

  -- a call that writes some lines
  lines_said : (c : Call) → Still h (by c) → Guarded h (by c) → Lines s m fs t m' → Said h (by c) t
  lines_said c q g l = record {
    core = still_core h t (by c) q (lines_core h s m fs t m' k l);
    guarded = g;
    tape = lines_tape s m fs t m' l;
    owned = lines_owned h s m fs t m' k l;
    takes = lines_takes h s m fs t m' k l;
  }

  -- a call that writes none, and leaves the state now
  quiet_said : (c : Call) (now : State) → now.tape ≡ s.tape → t ≡ now → Guarded h (by c) → Quiet m fs m' → Core (by c ∷ h) now → Said h (by c) t
  quiet_said c now tape effect g (none, same) core = record {
    core = subst (Core (by c ∷ h)) (sym effect) core;
    guarded = g;
    tape = nothing_more t.tape s.tape fs (ap (λ (x : State). x.tape) effect ∙ tape) none;
    owned = subst (AllByRecursion (Owned h)) (sym none) tt;
    takes = subst (λ l. Takes m l m') (sym none) same;
  }

  refused_said : (c : Call) (f : GateFault) → Guarded h (by c) → Quiet m fs m' → Refusing f s a t → Said h (by c) t
  refused_said c f g quiet (answers, same) = quiet_said c s refl same g quiet (still_core h s (by c) (refused_still h c a f s m fs m' answers) k)

  listed_said : (x : SeriesTerms) (n : ℕ) → Guarded h (by (call.Series x)) → Quiet m fs m' → a ≡ Ok (reply.Series n) → t ≡ listed_in s x → Said h (by (call.Series x)) t
  listed_said x n g quiet answers effect =
      quiet_said (call.Series x) (listed_in s x) refl effect g quiet (record {
        series = ap (λ l. l ++ series_of x ∷ []) k.series ∙ ap (λ (b : Verdict). listed h ++ listed_by (call.Series x) b) (sym answers);
        notices = nothing_more s.notices (posted h) [] k.notices refl;
        orders = orders_stay h s (by (call.Series x)) k.orders (none_accepted h (by (call.Series x)) (λ i. omega arith)) (λ j. refl);
        closed = k.closed;
        counted = k.counted;
        few = k.few;
      })

  posted_said : (x : NoticeTerms) (n : ℕ) → Guarded h (by (call.Notice x)) → Quiet m fs m' → a ≡ Ok (reply.Notice n) → t ≡ posted_in s x → Said h (by (call.Notice x)) t
  posted_said x n g quiet answers effect =
      quiet_said (call.Notice x) (posted_in s x) refl effect g quiet (record {
        series = nothing_more s.series (listed h) [] k.series refl;
        notices = ap (λ l. l ++ buffers_of x ∷ []) k.notices ∙ ap (λ (b : Verdict). posted h ++ posted_by (call.Notice x) b) (sym answers);
        orders = orders_stay h s (by (call.Notice x)) k.orders (none_accepted h (by (call.Notice x)) (λ i. omega arith)) (λ j. refl);
        closed = k.closed;
        counted = k.counted;
        few = k.few;
      })

  -- a bell that cancels nothing
  bell_said : (b : Bell) (p : Phase) → ((n : ℕ) → cancelled_by (call.Phase b) a s n ≡ None) → is_closed p ≡ false → Guarded h (by (call.Phase b)) → Quiet m fs m' → t ≡ with_phase s p → Said h (by (call.Phase b)) t
  bell_said b p none unclosed g quiet effect =
      quiet_said (call.Phase b) (with_phase s p) refl effect g quiet (record {
        series = nothing_more s.series (listed h) [] k.series refl;
        notices = nothing_more s.notices (posted h) [] k.notices refl;
        orders = orders_stay h s (by (call.Phase b)) k.orders (none_accepted h (by (call.Phase b)) (λ i. omega arith)) none;
        closed = λ c. absurd (both_ways (is_closed p) unclosed c);
        counted = k.counted;
        few = k.few;
      })

  close_said : (p : Phase) (u : ℕ) → is_closed s.phase ≡ false → Guarded h (by (call.Phase bell.Close)) → Quiet m fs m' → a ≡ Ok (reply.Phase bell.Close u) → t ≡ rung_to s bell.Close p → Said h (by (call.Phase bell.Close)) t
  close_said p u unclosed g quiet answers effect =
      let found : (n : ℕ) → cancelled_by (call.Phase bell.Close) a s n ≡ ok_units (resting_units (s.order n)) =
      λ n. ap (λ (b : Verdict). cancelled_by (call.Phase bell.Close) b s n) answers ∙ open_while s n unclosed in
      quiet_said (call.Phase bell.Close) (rung_to s bell.Close p) refl effect g quiet (record {
        series = nothing_more s.series (listed h) [] k.series refl;
        notices = nothing_more s.notices (posted h) [] k.notices refl;
        orders = leave_orders h s.last s.order s.tape k.orders (by (call.Phase bell.Close)) nothing (none_accepted h (by (call.Phase bell.Close)) (λ i. omega arith))
            (λ n. ⊎_elim
            (λ gone. inl (record { same = sym gone; none = found n ∙ ap (λ v. ok_units (resting_units v)) gone }))
            (λ o. inr (record { was = o.0; held = o.1; gone = refl; units = found n ∙ ap (λ v. ok_units (resting_units v)) o.1 }))
            (option_cases (s.order n)));
        closed = λ c n. refl;
        counted = sym (none_rest one refl s.last);
        few = omega arith;
      })

  rung_said : (b : Bell) (u : ℕ) (p : Phase) → after s.phase b ≡ Some p → Guarded h (by (call.Phase b)) → Quiet m fs m' → a ≡ Ok (reply.Phase b u) → t ≡ rung_to s b p → Said h (by (call.Phase b)) t
  rung_said bell.Open u p is g quiet answers effect = bell_said bell.Open p (λ n. refl) (MatchOption-at_some (Unit {0}) (λ q. is_closed q ≡ false) p is (opened s.phase)) g quiet effect
  rung_said bell.Halt u p is g quiet answers effect = bell_said bell.Halt p (λ n. refl) (MatchOption-at_some (Unit {0}) (λ q. is_closed q ≡ false) p is (halted s.phase)) g quiet effect
  rung_said bell.Resume u p is g quiet answers effect = bell_said bell.Resume p (λ n. refl) (MatchOption-at_some (Unit {0}) (λ q. is_closed q ≡ false) p is (resumed s.phase)) g quiet effect
  rung_said bell.Close u p is g quiet answers effect = close_said p u (MatchOption-at_some (Unit {0}) (λ q. is_closed s.phase ≡ false) p is (was_open s.phase)) g quiet answers effect

  cancelled_said : (z : ℤ) (u : ℕ) → cancelling s z ≡ Ok u → Guarded h (by (call.Cancel z)) → Quiet m fs m' → a ≡ Ok (reply.Cancel u) → t ≡ cancelled_in s z → Said h (by (call.Cancel z)) t
  cancelled_said (negsuc n) u is g quiet answers effect =
      absurd (err_ok gate.NotResting u (check_ok (not (is_closed s.phase)) gate.Phase (resting_units None) u is).1)
  cancelled_said (pos n) u is g quiet answers effect =
      let checked = check_ok (not (is_closed s.phase)) gate.Phase (resting_units (s.order n)) u is in
      let found = resting_found (s.order n) u checked.1 in
      let o : Resting = found.0 in
      let known = k.orders.known n o found.1 in
      let units : (j : ℕ) → cancelled_by (call.Cancel (pos n)) a s j ≡ cond (eqb n j) (Some o.remaining) None =
      λ j. ap (λ (b : Verdict). cancelled_by (call.Cancel (pos n)) b s j) answers ∙ ap (λ v. cond (eqb n j) (Some v) None) found.2 in
      quiet_said (call.Cancel (pos n)) (cancelled_in s (pos n)) refl effect g quiet (record {
        series = nothing_more s.series (listed h) [] k.series refl;
        notices = nothing_more s.notices (posted h) [] k.notices refl;
        orders = leave_orders h s.last s.order s.tape k.orders (by (call.Cancel (pos n))) (put s.order n None) (none_accepted h (by (call.Cancel (pos n))) (λ i. omega arith))
            (λ j. ⊎_elim
            (λ at. inr (record {
              was = o;
              held = sym (ap s.order at) ∙ found.1;
              gone = put_here s.order n None j at;
              units = units j ∙ cond-true (eqb n j) (Some o.remaining) None (eq-eqb n j at);
            }))
            (λ ne. inl (record { same = put_other s.order n None j ne; none = units j ∙ cond-false (eqb n j) (Some o.remaining) None (ne_eqb n j ne) }))
            (cases_eq n j));
        closed = λ c. absurd (both_ways (is_closed s.phase) (not-true (is_closed s.phase) checked.0) c);
        counted = count_cancel s.order n s.last s.count o found.1 (k.orders.low n known.entry known.accepted) k.counted;
        few = omega (arith, k.few);
      })

  -- an order o past the first checks, whose legs are of the strategy y
  module _ (o : OrderTerms) (y : Strategy) (classified : Classified (options_of s.series o) y) where
    abbrev x : Entry
    x = record { terms = o; options = options_of s.series o; strategy = y }

    options_are : options_of s.series o ≡ options_of (listed h) o
    options_are = ap (λ table. options_of table o) k.series

    accepts : (n : ℕ) → o.channel ≡ channel.Plain → a ≡ order n y → Accepts h (by (call.Enter o)) n x
    accepts n plain answers = record { asked = refl; answered = answers; plain = plain; options = options_are; classified = classified }

    -- the call accepts no other
    only : (n j : ℕ) (z : Entry) → a ≡ order n y → Accepts h (by (call.Enter o)) j z → (j ≡ n) × (z ≡ x)
    only n j z answers q =
        let p : z.terms ≡ o = sym (same_order o z.terms q.asked) in
        let r : z.options ≡ options_of s.series o = q.options ∙ ap (options_of (listed h)) p ∙ sym options_are in
        let u : z.strategy ≡ y = unique (options_of s.series o) y z.strategy classified (subst (λ g. Classified g z.strategy) r q.classified) in
        (same_number (record { number = j; class = z.strategy.class }) (record { number = n; class = y.class }) (sym q.answered ∙ answers), λ i. record { terms = p i; options = r i; strategy = u i })

    exempt_said : o.channel ≡ channel.Exempt → Guarded h (by (call.Enter o)) → Quiet m fs m' → t ≡ s → Said h (by (call.Enter o)) t
    exempt_said exempt g quiet effect =
        quiet_said (call.Enter o) s refl effect g quiet (still_core h s (by (call.Enter o)) (record {
          accepts_none = λ j z q. plain_exempt (sym q.plain ∙ sym (ap (λ (w : OrderTerms). w.channel) (same_order o z.terms q.asked)) ∙ exempt);
          cancels_none = λ j. refl;
          lists_none = refl;
          posts_none = refl;
        }) k)

    module _ (passed : Passed s o (placed_by s o)) (g : Guarded h (by (call.Enter o))) (quiet : Quiet m fs m') where
      plain_said : o.channel ≡ channel.Plain → s.count + 1 ≤ 64 → a ≡ order (s.last + 1) y → t ≡ kept_in s (s.last + 1) (turned_terms y (entered_as o)) (quantity_of x) channel.Plain → Said h (by (call.Enter o)) t
      plain_said plain room answers effect =
          quiet_said (call.Enter o) (kept_in s (s.last + 1) (turned_terms y (entered_as o)) (quantity_of x) channel.Plain) refl effect g quiet (record {
            series = nothing_more s.series (listed h) [] k.series refl;
            notices = nothing_more s.notices (posted h) [] k.notices refl;
            orders = enter_orders h s.last s.order s.tape k.orders (by (call.Enter o)) x (accepts (s.last + 1) plain answers)
                (λ j z q. only (s.last + 1) j z answers q) (λ j. refl) passed.some (turned_sound y.turned (entered_legs o) passed.fit);
            closed = λ c. absurd (both_ways (is_closed s.phase) passed.unclosed c);
            counted = ap (λ n. n + 1) k.counted ∙ sym (count_new s.order s.last (resting_as (s.last + 1) x (quantity_of x)));
            few = room;
          })

      entered_said : (c : Channel) → o.channel ≡ c → (n : ℕ) → entering s (placed_by s o) y ≡ Ok n → a ≡ order n y → t ≡ entered_in s n (placed_by s o) y → Said h (by (call.Enter o)) t
      entered_said channel.Exempt is n ok answers effect = exempt_said is g quiet (effect ∙ ap (kept_in s n (turned_terms y (entered_as o)) (quantity_of x)) is)
      entered_said channel.Plain is n ok answers effect =
          let checked = fault_ok (price_check (placed_by s o) (turned_terms y (entered_as o)) (in_force s.notices)) (numbering s o.channel) n ok in
          let next = numbered s n (sym (ap (numbering s) is) ∙ checked.1) in
          plain_said is next.0 (answers ∙ ap (λ j. order j y) next.1)
          (effect ∙ ap (kept_in s n (turned_terms y (entered_as o)) (quantity_of x)) is ∙ ap (λ j. kept_in s j (turned_terms y (entered_as o)) (quantity_of x) channel.Plain) next.1)

  -- an accepted order has the class of its legs
  entry_known : (o : OrderTerms) → Step s m (call.Enter o) a fs t m' → EntryKnown h (by (call.Enter o))
  entry_known o (quiet, d) o' n c asked plain answered =
      ⊎_elim
      (λ p.
      let y : Strategy = p.1.0 in
      ⊎_elim
      (λ w.
      let number = same_number (record { number = w.0; class = y.class }) (record { number = n; class = c }) (sym w.2.0 ∙ answered) in
      (x o y p.1.1, accepts o y p.1.1 n (ap (λ (z : OrderTerms). z.channel) (same_order o o' asked) ∙ plain) (w.2.0 ∙ ap (λ j. order j y) number)))
      (λ w. absurd (err_ok w.0 _ (sym w.2.0 ∙ answered)))
      (by_cases (entering s (placed_by s o) y) (λ j. (a ≡ order j y) × (t ≡ entered_in s j (placed_by s o) y)) (λ f. Refusing f s a t) p.1.2))
      (λ p. absurd (err_ok p.0 _ (sym p.2.0 ∙ answered)))
      (enter_cases s o a t d)

  -- the one line of a work
  work_line : (z : ℤ) (f : Line) → working s m z ≡ Ok f → fs ≡ f ∷ [] → t ≡ filled_in s f → m' ≡ filled_from s m f → Lines s m fs t m'
  work_line z f is line effect rest =
      ⊎_elim
      (λ l. absurd (err_ok l.0 f (sym l.1 ∙ is)))
      (λ r.
      let fits : matched s m r.0 ≡ Ok f = sym r.2 ∙ is in
      subst (λ l. Lines s m l t m') (sym line) (r.0, own z r.0 r.1 fits, fits, (effect, rest)))
      (work_cases s m z)
    where
      own : (w : ℤ) (o : Resting) → lookup s.order w ≡ Some o → matched s m o ≡ Ok f → s.order f.number ≡ Some o
      own (negsuc n) o held fits = absurd (some_none o (sym held))
      own (pos n) o held fits =
          let drawn = map_ok_lem (line_for o (length s.notices)) (filling m (terms_in o) o.remaining (in_force s.notices)) f fits in
          ap s.order (ap (λ (l : Line). l.number) drawn.2 ∙ ap (λ (y : Resting). y.number) (k.orders.known n o held).is) ∙ held

  pub step_said : (c : Call) → Step s m c a fs t m' → Said h (by c) t
  step_said (call.Series x) (quiet, d) =
      let g = neither h (by (call.Series x)) (λ i. omega arith) (λ i. omega arith) in
      ⊎_elim
      (λ y. listed_said x y.0 g quiet y.2.0 y.2.1)
      (λ y. refused_said (call.Series x) y.0 g quiet y.2)
      (by_cases (listing s x) (λ n. (a ≡ Ok (reply.Series n)) × (t ≡ listed_in s x)) (λ f. Refusing f s a t) d)
  step_said (call.Notice x) (quiet, d) =
      let g = neither h (by (call.Notice x)) (λ i. omega arith) (λ i. omega arith) in
      ⊎_elim
      (λ y. posted_said x y.0 g quiet y.2.0 y.2.1)
      (λ y. refused_said (call.Notice x) y.0 g quiet y.2)
      (by_cases (posting s x) (λ n. (a ≡ Ok (reply.Notice n)) × (t ≡ posted_in s x)) (λ f. Refusing f s a t) d)
  step_said (call.Phase b) (quiet, d) =
      let g = neither h (by (call.Phase b)) (λ i. omega arith) (λ i. omega arith) in
      ⊎_elim
      (λ y.
      let p = rung_ok (after s.phase b) (units_cancelled s b) y.0 y.1 in
      rung_said b y.0 p.0 p.1 g quiet y.2.0 (y.2.1 ∙ ap (rung_by s b) p.1))
      (λ y. refused_said (call.Phase b) y.0 g quiet y.2)
      (by_cases (ringing s b) (λ units. (a ≡ Ok (reply.Phase b units)) × (t ≡ rung_in s b)) (λ f. Refusing f s a t) d)
  step_said (call.Enter o) (quiet, d) =
      let g : Guarded h (by (call.Enter o)) = record {
        known = entry_known o (quiet, d);
        limit = limit_held h s k.series k.notices o a m fs t m' (quiet, d);
        prevention = not_work h (by (call.Enter o)) (λ i. omega arith);
      } in
      ⊎_elim
      (λ p.
      let y : Strategy = p.1.0 in
      ⊎_elim
      (λ w. entered_said o y p.1.1 p.0 g quiet o.channel refl w.0 w.1 w.2.0 w.2.1)
      (λ w. refused_said (call.Enter o) w.0 g quiet w.2)
      (by_cases (entering s (placed_by s o) y) (λ n. (a ≡ order n y) × (t ≡ entered_in s n (placed_by s o) y)) (λ f. Refusing f s a t) p.1.2))
      (λ p. refused_said (call.Enter o) p.0 g quiet p.2)
      (enter_cases s o a t d)
  step_said (call.Cancel z) (quiet, d) =
      let g = neither h (by (call.Cancel z)) (λ i. omega arith) (λ i. omega arith) in
      ⊎_elim
      (λ y. cancelled_said z y.0 y.1 g quiet y.2.0 y.2.1)
      (λ y. refused_said (call.Cancel z) y.0 g quiet y.2)
      (by_cases (cancelling s z) (λ units. (a ≡ Ok (reply.Cancel units)) × (t ≡ cancelled_in s z)) (λ f. Refusing f s a t) d)
  step_said (call.Work z) d =
      let e : Event = by (call.Work z) in
      let g : Guarded h e = record { known = not_entry h e (λ i. omega arith); limit = not_limit h e (λ i. omega arith); prevention = prevention_held h s k.orders k.notices z a m fs t m' d } in
      let still : Still h e = record { accepts_none = none_accepted h e (λ i. omega arith); cancels_none = λ n. refl; lists_none = refl; posts_none = refl } in
      ⊎_elim
      (λ y. lines_said (call.Work z) still g (work_line z y.0 y.1 y.2.1 y.2.2 y.2.3))
      (λ y. refused_said (call.Work z) y.0 g y.2.0 y.2.1)
      (by_cases (working s m z) (λ f. Works s m f a fs t m') (λ f. Quiet m fs m' × Refusing f s a t) d)
  step_said call.Sweep d =
      let e : Event = by call.Sweep in
      let g = neither h e (λ i. omega arith) (λ i. omega arith) in
      let still : Still h e = record { accepts_none = none_accepted h e (λ i. omega arith); cancels_none = λ n. refl; lists_none = refl; posts_none = refl } in
      ⊎_elim
      (λ y. lines_said call.Sweep still g (sweep_lines s m fs t m' y.2.2))
      (λ y. refused_said call.Sweep y.0 g y.2.0 y.2.1)
      (by_cases (sweeping s) (λ _. Swept s m a fs t m') (λ f. Quiet m fs m' × Refusing f s a t) d)
