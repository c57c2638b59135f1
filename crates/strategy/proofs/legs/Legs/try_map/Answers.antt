use Rattle.std.proofs.Common.{rules}
use Rattle.strategy.proofs.Short.{two_are, three_are, four_are}
use Rattle.strategy.proofs.legs.Legs.try_map.Goals as goal

pub returns-in_err-f-in-Two : goal.returns-in_err-f-in-Two
returns-in_err-f-in-Two g c p h = rw (c.in-Two.is, two_are c.in-Two.legs c.index-legs-0.result c.index-legs-1.result (search rules), ← h 1 _ _ c.f.ensures) (search rules)

pub returns-in_err-f-in-Two-2 : goal.returns-in_err-f-in-Two-2
returns-in_err-f-in-Two-2 g c p h = rw (c.in-Two.is, two_are c.in-Two.legs c.index-legs-0.result c.index-legs-1.result (search rules), ← h 1 _ _ c.f.ensures, ← h 2 _ _ c.f-in-Two.ensures) (search rules)

pub returns-in-Two : goal.returns-in-Two
returns-in-Two g c p h = rw (c.in-Two.is, two_are c.in-Two.legs c.index-legs-0.result c.index-legs-1.result (search rules), ← h 1 _ _ c.f.ensures, ← h 2 _ _ c.f-in-Two.ensures) (search rules)

pub returns-in_err-f-in-Three : goal.returns-in_err-f-in-Three
returns-in_err-f-in-Three g c p h = rw (c.in-Three.is, three_are c.in-Three.legs c.index-legs-0-in-Three.result c.index-legs-1-in-Three.result c.index-legs-2.result (search rules), ← h 1 _ _ c.f-in-Three.ensures) (search rules)

pub returns-in_err-f-in-Three-2 : goal.returns-in_err-f-in-Three-2
returns-in_err-f-in-Three-2 g c p h = rw (c.in-Three.is, three_are c.in-Three.legs c.index-legs-0-in-Three.result c.index-legs-1-in-Three.result c.index-legs-2.result (search rules), ← h 1 _ _ c.f-in-Three.ensures, ← h 2 _ _ c.f-in-Three-2.ensures) (search rules)

pub returns-in_err-f-in-Three-3 : goal.returns-in_err-f-in-Three-3
returns-in_err-f-in-Three-3 g c p h = rw (c.in-Three.is, three_are c.in-Three.legs c.index-legs-0-in-Three.result c.index-legs-1-in-Three.result c.index-legs-2.result (search rules), ← h 1 _ _ c.f-in-Three.ensures, ← h 2 _ _ c.f-in-Three-2.ensures, ← h 3 _ _ c.f-in-Three-3.ensures) (search rules)

pub returns-in-Three : goal.returns-in-Three
returns-in-Three g c p h = rw (c.in-Three.is, three_are c.in-Three.legs c.index-legs-0-in-Three.result c.index-legs-1-in-Three.result c.index-legs-2.result (search rules), ← h 1 _ _ c.f-in-Three.ensures, ← h 2 _ _ c.f-in-Three-2.ensures, ← h 3 _ _ c.f-in-Three-3.ensures) (search rules)

pub returns-in_err-f-in-Four : goal.returns-in_err-f-in-Four
returns-in_err-f-in-Four g c p h = rw (c.in-Four.is, four_are c.in-Four.legs c.index-legs-0-in-Four.result c.index-legs-1-in-Four.result c.index-legs-2-in-Four.result c.index-legs-3.result (search rules), ← h 1 _ _ c.f-in-Four.ensures) (search rules)

pub returns-in_err-f-in-Four-2 : goal.returns-in_err-f-in-Four-2
returns-in_err-f-in-Four-2 g c p h = rw (c.in-Four.is, four_are c.in-Four.legs c.index-legs-0-in-Four.result c.index-legs-1-in-Four.result c.index-legs-2-in-Four.result c.index-legs-3.result (search rules), ← h 1 _ _ c.f-in-Four.ensures, ← h 2 _ _ c.f-in-Four-2.ensures) (search rules)

pub returns-in_err-f-in-Four-3 : goal.returns-in_err-f-in-Four-3
returns-in_err-f-in-Four-3 g c p h = rw (c.in-Four.is, four_are c.in-Four.legs c.index-legs-0-in-Four.result c.index-legs-1-in-Four.result c.index-legs-2-in-Four.result c.index-legs-3.result (search rules), ← h 1 _ _ c.f-in-Four.ensures, ← h 2 _ _ c.f-in-Four-2.ensures, ← h 3 _ _ c.f-in-Four-3.ensures) (search rules)

pub returns-in_err-f-in-Four-4 : goal.returns-in_err-f-in-Four-4
returns-in_err-f-in-Four-4 g c p h = rw (c.in-Four.is, four_are c.in-Four.legs c.index-legs-0-in-Four.result c.index-legs-1-in-Four.result c.index-legs-2-in-Four.result c.index-legs-3.result (search rules), ← h 1 _ _ c.f-in-Four.ensures, ← h 2 _ _ c.f-in-Four-2.ensures, ← h 3 _ _ c.f-in-Four-3.ensures, ← h 4 _ _ c.f-in-Four-4.ensures) (search rules)

pub returns : goal.returns
returns g c p h = rw (c.in-Four.is, four_are c.in-Four.legs c.index-legs-0-in-Four.result c.index-legs-1-in-Four.result c.index-legs-2-in-Four.result c.index-legs-3.result (search rules), ← h 1 _ _ c.f-in-Four.ensures, ← h 2 _ _ c.f-in-Four-2.ensures, ← h 3 _ _ c.f-in-Four-3.ensures, ← h 4 _ _ c.f-in-Four-4.ensures) (search rules)
