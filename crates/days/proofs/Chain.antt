-- Some fills, one after the other.
use Rattle.std.proofs.Common.{◌≡◌, ℕ, ◌≤◌, true, false, List, [], ◌∷◌, ◌++◌, map, length, ℤ, ◌≤ℤ◌, Some, None, Ok, Option, Result, sym, refl, ap, ◌∙◌, subst, arith}
use lib.Signed.{lt_z}
use Rattle.std.specs.List.{AllByRecursion}
use Rattle.std.proofs.lemmas.List.{append-nil, append_assoc}
use Rattle.std.proofs.lemmas.Int.{ints}
use Rattle.std.proofs.lemmas.Bool.{both_ways}
use Rattle.strategy.specs.declared.leg.Side.{Side}
use Rattle.strategy.specs.declared.leg.Side.TheVariants.{Buy, Sell}
use Rattle.strategy.specs.Legs.{turned_legs}
use Rattle.strategy.specs.Prices.{prevented_of, Exactly, ForBanded, OutOfBand}
use Rattle.market.specs.declared.quote.QuoteSide.{QuoteSide}
use Rattle.market.specs.declared.leg.TradedLeg.{TradedLeg}
use Rattle.market.specs.Levels.{Levels}
use Rattle.market.specs.Takes.{legs_taken}
use Rattle.orders.specs.declared.fault.GateFault.{GateFault}
use Rattle.orders.specs.declared.fault.GateFault.TheVariants as gate
use Rattle.book.specs.Resting.{Resting, resting_up_to}
use Rattle.fills.specs.Fills.{taken_side, past_limit}
use Rattle.fills.proofs.Quotes.{banded}
use Rattle.days.specs.State.{State, Line, in_force}
use Rattle.days.specs.Listings.{is_closed}
use Rattle.days.specs.Entries.{entered_legs}
use Rattle.days.specs.Works.{terms_in, matched, when_resting, legs_of, filled_in, filled_from, Sweeps}
use Rattle.days.specs.History.{Event}
use Rattle.days.specs.Laws.{listed, posted, Entry, side_of, limit_of, legs_of as legs_for, filled_terms, net_of, WithinLimit, Owned, LegsTake, Takes}
use Rattle.orders.proofs.Checked.{err_ok, some_none}
use Rattle.days.proofs.Fills.{Match, match_ok, fill_takes, net_is, terms_are}
use Rattle.days.proofs.Orders.{resting_as, Known, Orders, fill_orders}
use Rattle.days.proofs.Counts.{count_fill}
use Rattle.days.proofs.Prevent.{classified_of, prevents_law}

-- What the induction keeps, of the calls h and the state s.
pub record Core (h : List Event) (s : State) : Type 0 where
  pub series : s.series ≡ listed h
  pub notices : s.notices ≡ posted h
  pub orders : Orders h s.last s.order s.tape
  pub closed : is_closed s.phase ≡ true → (n : ℕ) → s.order n ≡ None
  pub counted : s.count ≡ resting_up_to s.order s.last
  pub few : s.count ≤ 64

not-below : (a b : ℤ) → lt_z a b ≡ false → b ≤ℤ a
not-below a b h = grind (arith, ints)

within_limit : (side : Side) (net : ℤ) (limit : Option ℤ) → past_limit side net limit ≡ false → WithinLimit side net limit
within_limit side net None e = tt
within_limit Buy net (Some limit) e = not-below limit net e
within_limit Sell net (Some limit) e = not-below net limit e

-- One fill

module _ (h : List Event) (s : State) (m : Levels) (f : Line) (o : Resting) (k : Core h s) (held : s.order f.number ≡ Some o) (e : matched s m o ≡ Ok f) where
  known : Known h f.number o
  known = k.orders.known f.number o held

  -- the order in the terms in which it was accepted
  abbrev x : Entry
  x = known.entry

  abbrev own : Resting
  own = resting_as f.number x o.remaining

  match : Match s m own f
  match = match_ok s m own f known.fit (subst (λ (y : Resting). matched s m y ≡ Ok f) known.is e)

  pub fill_core : Core h (filled_in s f)
  fill_core =
      let small : f.units ≤ o.remaining = subst (λ (g : Line). g.units ≤ o.remaining) (sym match.line) match.filled.within in
      record {
        series = k.series;
        notices = k.notices;
        orders = fill_orders h s.last s.order s.tape k.orders f o held small;
        closed = λ c n. absurd (some_none o (sym held ∙ k.closed c f.number));
        counted = count_fill s.order f.number s.last s.count f.units o held small (k.orders.low f.number x known.accepted) k.counted;
        few = omega (arith, k.few);
      }

  pub fill_taken : LegsTake m f.side f.units f.legs (filled_from s m f)
  fill_taken =
      subst (λ (l : List TradedLeg). LegsTake m f.side f.units f.legs (legs_taken m (taken_side f.side) f.units l)) (sym (ap legs_of (held ∙ ap Some known.is)))
      (subst (λ (g : Line). LegsTake m g.side g.units g.legs (legs_taken m (taken_side g.side) g.units (legs_for x))) (sym match.line)
      (fill_takes m (terms_in own) o.remaining match.fill known.some match.filled))

  pub fill_owned : Owned h f
  fill_owned =
      let q : QuoteSide = taken_side (side_of x) in
      let net : ℤ = match.fill.net in
      subst (Owned h) (sym match.line) (record {
        entry = x;
        accepted = known.accepted;
        class = refl;
        side = refl;
        legs = ap (map filled_terms) match.filled.legs ∙ terms_are m q x.strategy.turned (entered_legs x.terms);
        net = net_is m q (legs_for x) net match.filled.price ∙ sym (ap net_of match.filled.legs);
        within = within_limit (side_of x) net (limit_of x) match.filled.inside;
        protected = subst (λ ns. ForBanded x.strategy.class (in_force ns) (λ b. OutOfBand (side_of x) x.strategy.width (turned_legs x.strategy.turned x.options) net b → ⊥)) k.notices
            (banded x.strategy.class (in_force s.notices)
            (λ b. Exactly (prevented_of x.strategy.class x.strategy.width (side_of x) net (in_force s.notices) ≡ true) (OutOfBand (side_of x) x.strategy.width (turned_legs x.strategy.turned x.options) net b))
            (λ b. OutOfBand (side_of x) x.strategy.width (turned_legs x.strategy.turned x.options) net b → ⊥)
            (λ b law out. both_ways (prevented_of x.strategy.class x.strategy.width (side_of x) net (in_force s.notices)) match.allows (law.1 out))
            (prevents_law x.options x.strategy (side_of x) net (in_force s.notices) (classified_of h f.number x known.accepted)));
        notice = ap length k.notices;
      })

-- Many fills

abbrev pub Lines : State → Levels → List Line → State → Levels → Type 0
Lines s m [] t m' = (t ≡ s) × (m' ≡ m)
Lines s m (f ∷ fs) t m' = (o : Resting) × (s.order f.number ≡ Some o) × (matched s m o ≡ Ok f) × Lines (filled_in s f) (filled_from s m f) fs t m'

resting_ok : (v : Option Resting) (next : Resting → Result Line GateFault) (f : Line) → when_resting v next ≡ Ok f → (o : Resting) × (v ≡ Some o) × (next o ≡ Ok f)
resting_ok None next f e = absurd (err_ok gate.NotResting f e)
resting_ok (Some o) next f e = (o, refl, e)

pub sweep_lines : (s : State) (m : Levels) (fs : List Line) (t : State) (m' : Levels) → Sweeps s m fs t m' → Lines s m fs t m'
sweep_lines s m [] t m' d = d
sweep_lines s m (f ∷ fs) t m' (would, lowest, room, rest) =
    let r = resting_ok (s.order f.number) (matched s m) f would in
    (r.0, r.1, r.2, sweep_lines (filled_in s f) (filled_from s m f) fs t m' rest)

pub lines_core : (h : List Event) (s : State) (m : Levels) (fs : List Line) (t : State) (m' : Levels) → Core h s → Lines s m fs t m' → Core h t
lines_core h s m [] t m' k (same, still) = subst (Core h) (sym same) k
lines_core h s m (f ∷ fs) t m' k (o, held, e, rest) = lines_core h (filled_in s f) (filled_from s m f) fs t m' (fill_core h s m f o k held e) rest

pub lines_tape : (s : State) (m : Levels) (fs : List Line) (t : State) (m' : Levels) → Lines s m fs t m' → t.tape ≡ s.tape ++ fs
lines_tape s m [] t m' (same, still) = ap (λ (x : State). x.tape) same ∙ sym (append-nil s.tape)
lines_tape s m (f ∷ fs) t m' (o, held, e, rest) = lines_tape (filled_in s f) (filled_from s m f) fs t m' rest ∙ append_assoc s.tape (f ∷ []) fs

pub lines_owned : (h : List Event) (s : State) (m : Levels) (fs : List Line) (t : State) (m' : Levels) → Core h s → Lines s m fs t m' → AllByRecursion (Owned h) fs
lines_owned h s m [] t m' k d = tt
lines_owned h s m (f ∷ fs) t m' k (o, held, e, rest) =
    (fill_owned h s m f o k held e, lines_owned h (filled_in s f) (filled_from s m f) fs t m' (fill_core h s m f o k held e) rest)

pub lines_takes : (h : List Event) (s : State) (m : Levels) (fs : List Line) (t : State) (m' : Levels) → Core h s → Lines s m fs t m' → Takes m fs m'
lines_takes h s m [] t m' k (same, still) = still
lines_takes h s m (f ∷ fs) t m' k (o, held, e, rest) =
    (filled_from s m f, fill_taken h s m f o k held e, lines_takes h (filled_in s f) (filled_from s m f) fs t m' (fill_core h s m f o k held e) rest)
