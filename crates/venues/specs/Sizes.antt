-- The size at a price of one side of a series: what is shown there, and what it becomes.
use Rattle.std.specs.Prelude.{ℕ, suc, Bool, false, cond, not, ◌&&◌, List, [], ◌∷◌, length, Some, None, Ok, Err, Option, Result, ◌==◌, nat_le}
use Rattle.market.specs.declared.quote.QuoteSide.{QuoteSide}
use Rattle.market.specs.declared.quote.QuoteSide.TheVariants.{Bid, Offer}
use Rattle.market.specs.declared.quote.Level.{Level}
use Rattle.market.specs.declared.quote.MarketFault.{MarketFault}
use Rattle.market.specs.declared.quote.MarketFault.TheVariants.{Meets, NinthLevel}
use Rattle.market.specs.Levels.{best_of}
use Rattle.venues.specs.Ordered.{better}

-- the size shown at the price p, 0 if none is
abbrev pub size_at : List Level → ℕ → ℕ
size_at [] p = 0
size_at (l ∷ ls) p = cond (l.price == p) l.size (size_at ls p)

-- whether the size n at the price p would be a ninth level
abbrev pub ninth : ℕ → ℕ → List Level → Bool
ninth p n ls = not (n == 0) && (size_at ls p == 0 && nat_le 8 (length ls))

-- whether a price would meet the best of the other side
abbrev pub meets : QuoteSide → ℕ → Option Level → Bool
meets Bid p None = false
meets Offer p None = false
meets Bid p (Some offer) = nat_le offer.price p
meets Offer p (Some bid) = nat_le p bid.price

-- whether a level with a size would meet it
abbrev pub blocked : QuoteSide → ℕ → ℕ → Option Level → Bool
blocked s p n best = not (n == 0) && meets s p best

-- a level in front of others, if it has a size
abbrev pub in_front : ℕ → ℕ → List Level → List Level
in_front p n ls = cond (n == 0) ls (record { price = p; size = n } ∷ ls)

-- the levels with the size n at the price p, in its place; with no size, without that price
abbrev pub with_size : QuoteSide → ℕ → ℕ → List Level → List Level
with_size s p n [] = in_front p n []
with_size s p n (l ∷ ls) = cond (better s l.price p) (l ∷ with_size s p n ls) (cond (l.price == p) (in_front p n ls) (in_front p n (l ∷ ls)))

-- what becomes of a side, by its own list and the other's
abbrev pub set_answer : QuoteSide → ℕ → ℕ → List Level → List Level → Result (Unit {0}) MarketFault
set_answer s p n own other = cond (blocked s p n (best_of other)) (Err Meets) (cond (ninth p n own) (Err NinthLevel) (Ok tt))

abbrev pub set_after : QuoteSide → ℕ → ℕ → List Level → List Level → List Level
set_after s p n own other = cond (blocked s p n (best_of other)) own (cond (ninth p n own) own (with_size s p n own))

-- how many levels are better than a price, and whether it comes right after them
abbrev pub place_of : QuoteSide → ℕ → List Level → ℕ
place_of s p [] = 0
place_of s p (l ∷ ls) = cond (better s l.price p) (suc (place_of s p ls)) 0

abbrev pub stands : QuoteSide → ℕ → List Level → Bool
stands s p [] = false
stands s p (l ∷ ls) = cond (better s l.price p) (stands s p ls) (l.price == p)

-- where a price stands, or where it would
abbrev pub found_at : QuoteSide → ℕ → List Level → Result ℕ ℕ
found_at s p ls = cond (stands s p ls) (Ok (place_of s p ls)) (Err (place_of s p ls))
