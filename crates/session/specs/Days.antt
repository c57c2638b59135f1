-- The day of the gate, as its session goes on with it.
use Rattle.std.specs.Prelude.{◌≡◌, ◌≤◌, List, ◌++◌, length}
use Rattle.std.specs.List.{AllByRecursion}
use Rattle.days.specs.History.{Event, Leads}
use Rattle.days.specs.Laws.{Lawful}
use Rattle.session.specs.Views.{View}

-- the calls h, and at most one more, over the session's market, lead on to y and keep the laws
pub record Continues (h : List Event) (x y : View) : Type 0 where
  pub calls : List Event
  pub few : length calls ≤ 1
  pub here : AllByRecursion (λ e. (e.market ≡ x.levels) × (e.left ≡ y.levels)) calls
  pub lawful : Lawful (calls ++ h) y.gate

-- Whatever calls led to the gate, the session goes on lawfully.
abbrev pub HandsOn : View → View → Type 0
HandsOn x y = (h : List Event) → Leads h x.gate → Continues h x y
