-- The legs of a line.
use Rattle.std.specs.Prelude.{◌≡◌, List, [], ◌∷◌, ◌++◌}
use Rattle.orders.specs.LegLists.{abridged}
use Rattle.orders.specs.declared.records.LegTerms.{LegTerms}
use Rattle.orders.specs.declared.records.LegList.{LegList}
use Rattle.commands.specs.Parts.{Part, word, number, opens, closes}
use Rattle.commands.specs.Words.{side_name}

abbrev pub leg_parts : LegTerms → List Part
leg_parts x = opens ∷ word (side_name x.side) ∷ number x.ratio ∷ number x.series ∷ closes ∷ []

abbrev pub legs_parts : List LegTerms → List Part
legs_parts [] = []
legs_parts (x ∷ all) = leg_parts x ++ legs_parts all

-- the parts are those of some legs, which l abridges
pub record LegsRead (l : LegList) (ps : List Part) : Type 0 where
  pub all : List LegTerms
  pub holds : l ≡ abridged all
  pub parts : ps ≡ legs_parts all
