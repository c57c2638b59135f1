-- Lines and their answers, in the course of a day.
use Rattle.std.specs.Prelude.{◌≡◌, ℕ, ◌≤◌, List, [], length}
use Rattle.answers.specs.declared.answer.Answer.{Answer}
use Rattle.market.specs.Levels.{Levels}
use Rattle.days.specs.History.{Event, New}
use Rattle.days.specs.Laws.{Lawful}
use Rattle.service.specs.Served.{Came, Through}
use Rattle.session.specs.Answering.{Does}
use Rattle.session.specs.Days.{HandsOn}
use Rattle.session.specs.Views.{View}

-- a line is answered, and the gate's day goes on
pub record Turn (x : View) (line : List ℕ) (y : View) : Type 0 where
  pub answer : Answer
  pub does : Does x line answer y
  pub law : HandsOn x y

-- A whole day: all lines that came are answered in their order, from a new gate on, whose market shows these levels at first; the calls among
-- them keep the laws.
pub record Ran (levels : Levels) : Type 0 where
  pub first : View
  pub last : View
  pub new : New first.gate
  pub tape : first.gate.tape_room ≡ 4096
  pub notices : first.gate.notice_room ≡ 64
  pub market : first.levels ≡ levels
  pub lines : List (List ℕ)
  pub came : Came [] lines []
  pub turns : Through Turn first lines last
  pub calls : List Event
  pub few : length calls ≤ length lines
  pub lawful : Lawful calls last.gate
