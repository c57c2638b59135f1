-- What a growing list holds.
use Rattle.std.specs.Prelude.{ℕ, List, length, take}
use Rattle.lent.specs.declared.list.GrowList.{GrowList}

-- its items, the oldest first
abbrev pub items : {T : Type 0} → GrowList T → List T
items g = take g.len g.slots.now

-- how many items there is memory for
abbrev pub room : {T : Type 0} → GrowList T → ℕ
room g = length g.slots.now
