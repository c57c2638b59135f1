-- Ranked levels, and what a take leaves of them.
use Rattle.std.specs.Prelude.{◌≡◌, ℕ, ◌<◌, ◌≤◌, true, ◌&&◌, List, [], ◌∷◌, Some, None, Option, ◌==◌, refl}
use Rattle.std.proofs.Common.{sym, ap, ◌∙◌, arith}
use Rattle.std.proofs.Math.Path.{fun_ext}
use Rattle.std.proofs.lemmas.Bool.{cond_both, and_parts, and_from, ltb-true}
use Rattle.std.proofs.lemmas.Bool.Decides.{nat_tests}
use Rattle.market.specs.declared.quote.QuoteSide.{QuoteSide}
use Rattle.market.specs.declared.quote.QuoteSide.TheVariants.{Bid, Offer}
use Rattle.market.specs.declared.quote.Level.{Level}
use Rattle.market.specs.Levels.{NotWorse, Ranked, can_take, less, less_first, taken, best_of}
use Rattle.venues.specs.Ordered.{in_range, apart, better, ahead, ordered}
use Rattle.venues.specs.SeriesDepths.{one_side}
use Rattle.venues.specs.Tables.{in_range_lem}

not_worse : (s : QuoteSide) (a b : ℕ) → better s a b ≡ true → NotWorse s a b
not_worse Bid a b h = let k = ltb-true b a h in omega arith
not_worse Offer a b h = let k = ltb-true a b h in omega arith

-- the three facts of a first level
pub head_in : (s : QuoteSide) (l : Level) (ls : List Level) → ordered s (l ∷ ls) ≡ true → in_range l ≡ true
head_in s l ls h = (and_parts (in_range l) (ahead s l.price ls && ordered s ls) h).0

pub head_ahead : (s : QuoteSide) (l : Level) (ls : List Level) → ordered s (l ∷ ls) ≡ true → ahead s l.price ls ≡ true
head_ahead s l ls h = (and_parts (ahead s l.price ls) (ordered s ls) (and_parts (in_range l) (ahead s l.price ls && ordered s ls) h).1).0

pub tail_ordered : (s : QuoteSide) (l : Level) (ls : List Level) → ordered s (l ∷ ls) ≡ true → ordered s ls ≡ true
tail_ordered s l ls h = (and_parts (ahead s l.price ls) (ordered s ls) (and_parts (in_range l) (ahead s l.price ls && ordered s ls) h).1).1

pub ordered_cons : (s : QuoteSide) (l : Level) (ls : List Level) → in_range l ≡ true → ahead s l.price ls ≡ true → ordered s ls ≡ true → ordered s (l ∷ ls) ≡ true
ordered_cons s l ls a b c = and_from (in_range l) (ahead s l.price ls && ordered s ls) a (and_from (ahead s l.price ls) (ordered s ls) b c)

pub ranked_from : (s : QuoteSide) (ls : List Level) → ordered s ls ≡ true → Ranked s ls
ranked_from s [] h = tt
ranked_from s (l ∷ []) h = in_range_lem l (head_in s l [] h)
ranked_from s (l ∷ (m ∷ ms)) h = (in_range_lem l (head_in s l (m ∷ ms) h), not_worse s l.price m.price (head_ahead s l (m ∷ ms) h), ranked_from s (m ∷ ms) (tail_ordered s l (m ∷ ms) h))

-- what a take leaves of a list: a first level cut down, or the rest
module _ (P : List Level → Type 0) (n : ℕ) where
  pub taken_both : (ls : List Level) → P ls → ((l : Level) (ms : List Level) → ls ≡ l ∷ ms → 1 ≤ n → n ≤ l.size → P ms) → ((l : Level) (ms : List Level) → ls ≡ l ∷ ms → 1 ≤ n → n < l.size → P (less l n ∷ ms)) → P (taken ls n)
  taken_both [] p gone cut = p
  taken_both (l ∷ ms) p gone cut =
      cond_both (can_take (l ∷ ms) n) (less_first (l ∷ ms) n) (l ∷ ms) P
      (λ can. cond_both (l.size == n) ms (less l n ∷ ms) P
      (λ e. gone l ms refl (grind (arith, nat_tests)) (grind (arith, nat_tests)))
      (λ e. cut l ms refl (grind (arith, nat_tests)) (grind (arith, nat_tests))))
      (λ cannot. p)

cut_in : (l : Level) (n : ℕ) → n < l.size → in_range l ≡ true → in_range (less l n) ≡ true
cut_in l n h r = grind (arith, nat_tests)

pub ordered_taken : (s : QuoteSide) (ls : List Level) (n : ℕ) → ordered s ls ≡ true → ordered s (taken ls n) ≡ true
ordered_taken s ls n h =
    taken_both (λ xs. ordered s xs ≡ true) n ls h
    (λ l ms e _ _. tail_ordered s l ms (ap (ordered s) (sym e) ∙ h))
    (λ l ms e _ b. let r = ap (ordered s) (sym e) ∙ h in ordered_cons s (less l n) ms (cut_in l n b (head_in s l ms r)) (head_ahead s l ms r) (tail_ordered s l ms r))

pub bids_below : (l : Level) (ms : List Level) (o : Option Level) → ahead Bid l.price ms ≡ true → apart (Some l) o ≡ true → apart (best_of ms) o ≡ true
bids_below l [] o a h = refl
bids_below l (m ∷ ms) None a h = refl
bids_below l (m ∷ ms) (Some x) a h = grind (arith, nat_tests)

pub offers_above : (b : Option Level) (l : Level) (ms : List Level) → ahead Offer l.price ms ≡ true → apart b (Some l) ≡ true → apart b (best_of ms) ≡ true
offers_above None l ms a h = refl
offers_above (Some x) l [] a h = refl
offers_above (Some x) l (m ∷ ms) a h = grind (arith, nat_tests)

same_bid : (l m : Level) (o : Option Level) → l.price ≡ m.price → apart (Some l) o ≡ true → apart (Some m) o ≡ true
same_bid l m None e h = refl
same_bid l m (Some x) e h = grind (arith, nat_tests)

same_offer : (b : Option Level) (l m : Level) → l.price ≡ m.price → apart b (Some l) ≡ true → apart b (Some m) ≡ true
same_offer None l m e h = refl
same_offer (Some x) l m e h = grind (arith, nat_tests)

pub apart_bids_taken : (ls : List Level) (o : Option Level) (n : ℕ) → ordered Bid ls ≡ true → apart (best_of ls) o ≡ true → apart (best_of (taken ls n)) o ≡ true
apart_bids_taken ls o n r h =
    taken_both (λ xs. apart (best_of xs) o ≡ true) n ls h
    (λ l ms e _ _. bids_below l ms o (head_ahead Bid l ms (ap (ordered Bid) (sym e) ∙ r)) (ap (λ xs. apart (best_of xs) o) (sym e) ∙ h))
    (λ l ms e _ _. same_bid l (less l n) o refl (ap (λ xs. apart (best_of xs) o) (sym e) ∙ h))

pub apart_offers_taken : (b : Option Level) (ls : List Level) (n : ℕ) → ordered Offer ls ≡ true → apart b (best_of ls) ≡ true → apart b (best_of (taken ls n)) ≡ true
apart_offers_taken b ls n r h =
    taken_both (λ xs. apart b (best_of xs) ≡ true) n ls h
    (λ l ms e _ _. offers_above b l ms (head_ahead Offer l ms (ap (ordered Offer) (sym e) ∙ r)) (ap (λ xs. apart b (best_of xs)) (sym e) ∙ h))
    (λ l ms e _ _. same_offer b l (less l n) refl (ap (λ xs. apart b (best_of xs)) (sym e) ∙ h))

-- one side changed, the other kept
module _ (f g : QuoteSide → List Level) (ls : List Level) where
  pub one_bid : g Bid ≡ ls → g Offer ≡ f Offer → g ≡ one_side f Bid ls
  one_bid a b = fun_ext (λ t. elim t as (λ v. g v ≡ one_side f Bid ls v) [ Bid ↦ a | Offer ↦ b ])

  pub one_offer : g Offer ≡ ls → g Bid ≡ f Bid → g ≡ one_side f Offer ls
  one_offer a b = fun_ext (λ t. elim t as (λ v. g v ≡ one_side f Offer ls v) [ Bid ↦ b | Offer ↦ a ])
