-- Tests of levels: in range, each better than the next, and bids below offers.
use Rattle.std.specs.Prelude.{◌≡◌, ℕ, Bool, true, ◌&&◌, List, [], ◌∷◌, Some, None, Option, nat_le, nat_lt}
use Rattle.market.specs.declared.quote.QuoteSide.{QuoteSide}
use Rattle.market.specs.declared.quote.QuoteSide.TheVariants.{Bid, Offer}
use Rattle.market.specs.declared.quote.Level.{Level}
use Rattle.market.specs.Levels.{Levels, best_of}

abbrev pub in_range : Level → Bool
in_range l = nat_le 1 l.price && (nat_le l.price 65534 && (nat_le 1 l.size && nat_le l.size 1000000))

-- a level that is there is in range
abbrev pub ok_level : Option Level → Bool
ok_level None = true
ok_level (Some l) = in_range l

-- whether a price is strictly better than another
abbrev pub better : QuoteSide → ℕ → ℕ → Bool
better Bid a b = nat_lt b a
better Offer a b = nat_lt a b

-- whether a price is strictly better than the first of some levels
abbrev pub ahead : QuoteSide → ℕ → List Level → Bool
ahead s p [] = true
ahead s p (l ∷ ls) = better s p l.price

-- whether each level is in range and strictly better than the next
abbrev pub ordered : QuoteSide → List Level → Bool
ordered s [] = true
ordered s (l ∷ ls) = in_range l && (ahead s l.price ls && ordered s ls)

-- whether a bid is below an offer, where both are there
abbrev pub apart : Option Level → Option Level → Bool
apart None o = true
apart (Some b) None = true
apart (Some b) (Some o) = nat_lt b.price o.price

-- no series has its best bid at or above its best offer
abbrev pub Uncrossed : Levels → Type 0
Uncrossed b = (k : ℕ) → apart (best_of (b k Bid)) (best_of (b k Offer)) ≡ true
