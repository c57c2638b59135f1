use Rattle.std.proofs.Common.{◌≡◌, List, ◌++◌, length}
use Rattle.orders.specs.LegLists.{abridged}
use Rattle.orders.specs.declared.records.LegTerms.{LegTerms}
use Rattle.commands.specs.Legs.{legs_parts}
use Rattle.commands.specs.Parts.{rest}
use Rattle.commands.proofs.legs.read_legs.Given as goal

abbrev pub invariant-loop-legs : goal.invariant-loop-legs
invariant-loop-legs l = (all : List LegTerms) × ((l.legs ≡ abridged all) × (rest l.initial.from ≡ legs_parts all ++ rest l.from))

abbrev pub decreases-loop-legs : goal.decreases-loop-legs
decreases-loop-legs l = length (rest l.from)
