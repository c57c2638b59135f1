-- What a book holds, by order number, and what it answers.
use Rattle.std.specs.Prelude.{ℕ, ◌+◌, cond, List, length, Ok, Err, Option, Result, nat_le}
use Rattle.book.specs.declared.book.Book.{Book}
use Rattle.book.specs.declared.fault.BookFault.{BookFault}
use Rattle.book.specs.declared.fault.BookFault.TheVariants.{Full, NumbersUsedUp}
use Rattle.book.specs.Resting.{Resting}
use Rattle.book.specs.declared.order.RestingOrder.{RestingOrder}
use Rattle.book.specs.Tables.{look}

abbrev pub in_use : Book → List RestingOrder
in_use b = b.orders.items

-- the resting order with number n
abbrev pub resting : Book → ℕ → Option Resting
resting b = look (in_use b)

-- how many orders rest
abbrev pub count : Book → ℕ
count b = length (in_use b)

-- the last number given
abbrev pub last : Book → ℕ
last b = b.given

-- what a new order draws, where `held` rest and `last_given` was the last number
abbrev pub answered : ℕ → ℕ → Result ℕ BookFault
answered held last_given = cond (nat_le 64 held) (Err Full) (cond (nat_le 50000 last_given) (Err NumbersUsedUp) (Ok (last_given + 1)))
