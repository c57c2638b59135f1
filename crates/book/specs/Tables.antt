-- The table of a book.
use Rattle.std.specs.Prelude.{ℕ, Bool, ◌&&◌, List, [], ◌∷◌, Option, ◌==◌, nat_le, nat_lt, find}
use Rattle.book.specs.declared.order.RestingOrder.{RestingOrder}
use Rattle.orders.specs.Quantities.{in_range}
use Rattle.book.specs.Resting.{Resting, rest}

-- the numbers rise from above `low` to at most `high`, and quantities are in range
abbrev pub orderly : ℕ → ℕ → List RestingOrder → Bool
orderly low high [] = nat_le low high
orderly low high (o ∷ os) = nat_lt low o.number && (in_range o.remaining && orderly o.number high os)

-- the order of this number
abbrev pub look : List RestingOrder → ℕ → Option Resting
look os n = rest (find (λ o. o.number == n) os)
