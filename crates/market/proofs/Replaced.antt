-- A list put in its place, and a take that is refused.
use Rattle.std.proofs.Common.{◌≡◌, ℕ, false, cond, ◌&&◌, eqb, List, refl, ap, ◌∙◌, arith}
use mathlib.Core.Path.{fun_ext}
use Rattle.std.proofs.lemmas.Bool.{eq-eqb}
use Rattle.std.proofs.lemmas.Bool.Decides.{nat_tests}
use Rattle.market.specs.declared.quote.QuoteSide.{QuoteSide}
use Rattle.market.specs.declared.quote.QuoteSide.TheVariants.{Bid, Offer}
use Rattle.market.specs.declared.quote.Level.{Level}
use Rattle.market.specs.Sides.{same_side}
use Rattle.market.specs.Levels.{Levels, can_take, less_first, replaced, taken_at}

-- the list stands where it was put
pub replaced_here : (b : Levels) (k : ℕ) (s : QuoteSide) (ls : List Level) → replaced b k s ls k s ≡ ls
replaced_here b k Bid ls = rw (eq-eqb k k refl)
replaced_here b k Offer ls = rw (eq-eqb k k refl)

-- to put back what is there changes nothing
same_there : (b : Levels) (j k : ℕ) (t s : QuoteSide) → cond (eqb j k && same_side t s) (b k s) (b j t) ≡ b j t
same_there b j k Bid Bid = grind (arith, nat_tests)
same_there b j k Bid Offer = grind (arith, nat_tests)
same_there b j k Offer Bid = grind (arith, nat_tests)
same_there b j k Offer Offer = grind (arith, nat_tests)

pub replaced_same : (b : Levels) (k : ℕ) (s : QuoteSide) → replaced b k s (b k s) ≡ b
replaced_same b k s = fun_ext (λ j. fun_ext (λ t. same_there b j k t s))

-- a refused take changes nothing
pub refused_same : (b : Levels) (k : ℕ) (s : QuoteSide) (n : ℕ) → can_take (b k s) n ≡ false → taken_at b k s n ≡ b
refused_same b k s n e = ap (λ t. replaced b k s (cond t (less_first (b k s) n) (b k s))) e ∙ replaced_same b k s
