use Rattle.std.proofs.Common.{rules}
use Rattle.strategy.proofs.Short.{three_are, four_are}
use Rattle.strategy.proofs.legs.Legs.map.Goals as goal

pub f-requires-in-Three-3 : goal.f-requires-in-Three-3
f-requires-in-Three-3 g c = rw c.in-Three.is at (c.requires 2 c.index-legs-2.result) (search rules)

pub returns-in-Three-clause-each : goal.returns-in-Three-clause-each
returns-in-Three-clause-each g c p h = rw (c.in-Three.is, three_are c.in-Three.legs c.index-legs-0-in-Three.result c.index-legs-1-in-Three.result c.index-legs-2.result (search rules), ← h _ _ c.f-in-Three.ensures, ← h _ _ c.f-in-Three-2.ensures, ← h _ _ c.f-in-Three-3.ensures)

pub returns-in-Three-clause-listed : goal.returns-in-Three-clause-listed
returns-in-Three-clause-listed g c p h = rw (c.in-Three.is, three_are c.in-Three.legs c.index-legs-0-in-Three.result c.index-legs-1-in-Three.result c.index-legs-2.result (search rules), ← h _ _ c.f-in-Three.ensures, ← h _ _ c.f-in-Three-2.ensures, ← h _ _ c.f-in-Three-3.ensures)

pub f-requires-in-Four : goal.f-requires-in-Four
f-requires-in-Four g c = rw c.in-Four.is at (c.requires 0 c.index-legs-0-in-Four.result) (search rules)

pub f-requires-in-Four-2 : goal.f-requires-in-Four-2
f-requires-in-Four-2 g c = rw c.in-Four.is at (c.requires 1 c.index-legs-1-in-Four.result) (search rules)

pub f-requires-in-Four-3 : goal.f-requires-in-Four-3
f-requires-in-Four-3 g c = rw c.in-Four.is at (c.requires 2 c.index-legs-2-in-Four.result) (search rules)

pub f-requires-in-Four-4 : goal.f-requires-in-Four-4
f-requires-in-Four-4 g c = rw c.in-Four.is at (c.requires 3 c.index-legs-3.result) (search rules)

pub returns-clause-each : goal.returns-clause-each
returns-clause-each g c p h = rw (c.in-Four.is, four_are c.in-Four.legs c.index-legs-0-in-Four.result c.index-legs-1-in-Four.result c.index-legs-2-in-Four.result c.index-legs-3.result (search rules), ← h _ _ c.f-in-Four.ensures, ← h _ _ c.f-in-Four-2.ensures, ← h _ _ c.f-in-Four-3.ensures, ← h _ _ c.f-in-Four-4.ensures)

pub returns-clause-listed : goal.returns-clause-listed
returns-clause-listed g c p h = rw (c.in-Four.is, four_are c.in-Four.legs c.index-legs-0-in-Four.result c.index-legs-1-in-Four.result c.index-legs-2-in-Four.result c.index-legs-3.result (search rules), ← h _ _ c.f-in-Four.ensures, ← h _ _ c.f-in-Four-2.ensures, ← h _ _ c.f-in-Four-3.ensures, ← h _ _ c.f-in-Four-4.ensures)
