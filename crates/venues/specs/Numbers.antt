-- Numbers in their range.
use Rattle.std.specs.Prelude.{ℕ, cond, ◌&&◌, ℤ, pos, negsuc, Some, None, Option, nat_le}

-- a number of low to high
abbrev pub within : ℕ → ℕ → ℤ → Option ℕ
within low high (pos n) = cond (nat_le low n && nat_le n high) (Some n) None
within low high (negsuc n) = None
