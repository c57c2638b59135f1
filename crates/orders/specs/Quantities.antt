-- The range of a quantity.
use Rattle.std.specs.Prelude.{ℕ, Bool, ◌&&◌, nat_le}

-- from 1 to 10,000
abbrev pub in_range : ℕ → Bool
in_range u = nat_le 1 u && nat_le u 10000
