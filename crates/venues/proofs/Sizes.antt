-- What a level call leaves: ordered lists, and sides that stay apart.
use Rattle.std.proofs.Common.{◌≡◌, ℕ, ◌≤◌, true, false, cond, not, eqb, List, [], ◌∷◌, Some, None, Ok, Err, Option, Result, sym, refl, ap, ◌∙◌, subst, ⊎_elim, arith}
use Rattle.std.proofs.lemmas.Bool.{cond_both, cond-true, cond-false, eqb-true, and_cases, not-false, both_ways}
use Rattle.std.proofs.lemmas.Bool.Decides.{nat_tests}
use Rattle.market.specs.declared.quote.QuoteSide.{QuoteSide}
use Rattle.market.specs.declared.quote.QuoteSide.TheVariants.{Bid, Offer}
use Rattle.market.specs.declared.quote.Level.{Level}
use Rattle.market.specs.declared.quote.MarketFault.{MarketFault}
use Rattle.market.specs.declared.quote.MarketFault.TheVariants.{Meets, NinthLevel}
use Rattle.market.specs.Sides.{opposite}
use Rattle.venues.specs.SeriesDepths.{one_side}
use Rattle.market.specs.Levels.{best_of}
use Rattle.venues.specs.Ordered.{in_range, apart, better, ahead, ordered}
use Rattle.venues.specs.Sizes.{in_front, with_size, ninth, meets, blocked, set_answer, set_after}
use Rattle.venues.specs.Ranks.{head_in, head_ahead, tail_ordered, ordered_cons, bids_below, offers_above, one_bid, one_offer}

abbrev lev : ℕ → ℕ → Level
lev p n = record { price = p; size = n }

better_trans : (s : QuoteSide) (a b c : ℕ) → better s a b ≡ true → better s b c ≡ true → better s a c ≡ true
better_trans Bid a b c h k = grind (arith, nat_tests)
better_trans Offer a b c h k = grind (arith, nat_tests)

pub better_other : (s : QuoteSide) (a b : ℕ) → better s a b ≡ false → eqb a b ≡ false → better s b a ≡ true
better_other Bid a b h k = grind (arith, nat_tests)
better_other Offer a b h k = grind (arith, nat_tests)

pub ahead_past : (s : QuoteSide) (a : ℕ) (l : Level) (ls : List Level) → better s a l.price ≡ true → ahead s l.price ls ≡ true → ahead s a ls ≡ true
ahead_past s a l [] h k = refl
ahead_past s a l (m ∷ ms) h k = better_trans s a l.price m.price h k

-- P of the list with or without a level in front
front_both : (P : List Level → Type 0) (p n : ℕ) (ls : List Level) → (eqb n 0 ≡ true → P ls) → (eqb n 0 ≡ false → P (lev p n ∷ ls)) → P (in_front p n ls)
front_both P p n ls a b = cond_both (eqb n 0) ls (lev p n ∷ ls) P a b

-- P of a list after a level call, by the ways of the call
pub sized_both : (P : List Level → Type 0) (s : QuoteSide) (p n : ℕ) (l : Level) (ls : List Level) → (better s l.price p ≡ true → P (l ∷ with_size s p n ls)) → (better s l.price p ≡ false → eqb l.price p ≡ true → P (in_front p n ls)) → (better s l.price p ≡ false → eqb l.price p ≡ false → P (in_front p n (l ∷ ls))) → P (with_size s p n (l ∷ ls))
sized_both P s p n l ls a b c =
    cond_both (better s l.price p) (l ∷ with_size s p n ls) (cond (eqb l.price p) (in_front p n ls) (in_front p n (l ∷ ls))) P a
    (λ e. cond_both (eqb l.price p) (in_front p n ls) (in_front p n (l ∷ ls)) P (b e) (c e))

ahead_sized : (s : QuoteSide) (a p n : ℕ) (ls : List Level) → ordered s ls ≡ true → better s a p ≡ true → ahead s a ls ≡ true → ahead s a (with_size s p n ls) ≡ true
ahead_sized s a p n [] r h k = front_both (λ xs. ahead s a xs ≡ true) p n [] (λ _. refl) (λ _. h)
ahead_sized s a p n (l ∷ ls) r h k =
    sized_both (λ xs. ahead s a xs ≡ true) s p n l ls (λ _. k)
    (λ _ _. front_both (λ xs. ahead s a xs ≡ true) p n ls (λ _. ahead_past s a l ls k (head_ahead s l ls r)) (λ _. h))
    (λ _ _. front_both (λ xs. ahead s a xs ≡ true) p n (l ∷ ls) (λ _. k) (λ _. h))

lev_in : (p n : ℕ) → 1 ≤ p → p ≤ 65534 → n ≤ 1000000 → eqb n 0 ≡ false → in_range (lev p n) ≡ true
lev_in p n a b c e = grind (arith, nat_tests)

pub ordered_sized : (s : QuoteSide) (p n : ℕ) (ls : List Level) → 1 ≤ p → p ≤ 65534 → n ≤ 1000000 → ordered s ls ≡ true → ordered s (with_size s p n ls) ≡ true
ordered_sized s p n [] a b c r = front_both (λ xs. ordered s xs ≡ true) p n [] (λ _. refl) (λ e. ordered_cons s (lev p n) [] (lev_in p n a b c e) refl refl)
ordered_sized s p n (l ∷ ls) a b c r =
    sized_both (λ xs. ordered s xs ≡ true) s p n l ls
    (λ e. ordered_cons s l (with_size s p n ls) (head_in s l ls r) (ahead_sized s l.price p n ls (tail_ordered s l ls r) e (head_ahead s l ls r)) (ordered_sized s p n ls a b c (tail_ordered s l ls r)))
    (λ _ e. front_both (λ xs. ordered s xs ≡ true) p n ls (λ _. tail_ordered s l ls r)
    (λ z. ordered_cons s (lev p n) ls (lev_in p n a b c z) (ap (λ k. ahead s k ls) (sym (eqb-true l.price p e)) ∙ head_ahead s l ls r) (tail_ordered s l ls r)))
    (λ e d. front_both (λ xs. ordered s xs ≡ true) p n (l ∷ ls) (λ _. r)
    (λ z. ordered_cons s (lev p n) (l ∷ ls) (lev_in p n a b c z) (better_other s l.price p e d) r))

-- a level that does not meet the other side stays apart from it
bid_clear : (p n : ℕ) (o : Option Level) → meets Bid p o ≡ false → apart (Some (lev p n)) o ≡ true
bid_clear p n None h = refl
bid_clear p n (Some x) h = grind (arith, nat_tests)

offer_clear : (b : Option Level) (p n : ℕ) → meets Offer p b ≡ false → apart b (Some (lev p n)) ≡ true
offer_clear None p n h = refl
offer_clear (Some x) p n h = grind (arith, nat_tests)

pub bids_sized : (p n : ℕ) (ls : List Level) (o : Option Level) → ordered Bid ls ≡ true → apart (best_of ls) o ≡ true → (eqb n 0 ≡ false → meets Bid p o ≡ false) → apart (best_of (with_size Bid p n ls)) o ≡ true
bids_sized p n [] o r h m = front_both (λ xs. apart (best_of xs) o ≡ true) p n [] (λ _. h) (λ e. bid_clear p n o (m e))
bids_sized p n (l ∷ ls) o r h m =
    sized_both (λ xs. apart (best_of xs) o ≡ true) Bid p n l ls (λ _. h)
    (λ _ _. front_both (λ xs. apart (best_of xs) o ≡ true) p n ls (λ _. bids_below l ls o (head_ahead Bid l ls r) h) (λ e. bid_clear p n o (m e)))
    (λ _ _. front_both (λ xs. apart (best_of xs) o ≡ true) p n (l ∷ ls) (λ _. h) (λ e. bid_clear p n o (m e)))

pub offers_sized : (p n : ℕ) (ls : List Level) (b : Option Level) → ordered Offer ls ≡ true → apart b (best_of ls) ≡ true → (eqb n 0 ≡ false → meets Offer p b ≡ false) → apart b (best_of (with_size Offer p n ls)) ≡ true
offers_sized p n [] b r h m = front_both (λ xs. apart b (best_of xs) ≡ true) p n [] (λ _. h) (λ e. offer_clear b p n (m e))
offers_sized p n (l ∷ ls) b r h m =
    sized_both (λ xs. apart b (best_of xs) ≡ true) Offer p n l ls (λ _. h)
    (λ _ _. front_both (λ xs. apart b (best_of xs) ≡ true) p n ls (λ _. offers_above b l ls (head_ahead Offer l ls r) h) (λ e. offer_clear b p n (m e)))
    (λ _ _. front_both (λ xs. apart b (best_of xs) ≡ true) p n (l ∷ ls) (λ _. h) (λ e. offer_clear b p n (m e)))

-- what a level call answers and leaves, as it meets the other side or not
module _ (s : QuoteSide) (p n : ℕ) (own other : List Level) where
  pub blocked_answer : blocked s p n (best_of other) ≡ true → Err Meets ≡ set_answer s p n own other
  blocked_answer e = sym (cond-true (blocked s p n (best_of other)) (Err Meets) (cond (ninth p n own) (Err NinthLevel) (Ok tt)) e)

  pub blocked_after : blocked s p n (best_of other) ≡ true → own ≡ set_after s p n own other
  blocked_after e = sym (cond-true (blocked s p n (best_of other)) own (cond (ninth p n own) own (with_size s p n own)) e)

  pub free_answer : (r : Result (Unit {0}) MarketFault) → blocked s p n (best_of other) ≡ false → r ≡ cond (ninth p n own) (Err NinthLevel) (Ok tt) → r ≡ set_answer s p n own other
  free_answer r e h = h ∙ sym (cond-false (blocked s p n (best_of other)) (Err Meets) (cond (ninth p n own) (Err NinthLevel) (Ok tt)) e)

  pub free_after : (ms : List Level) → blocked s p n (best_of other) ≡ false → ms ≡ cond (ninth p n own) own (with_size s p n own) → ms ≡ set_after s p n own other
  free_after ms e h = h ∙ sym (cond-false (blocked s p n (best_of other)) own (cond (ninth p n own) own (with_size s p n own)) e)

-- not blocked: with a size, it does not meet the other side
pub free_meets : (s : QuoteSide) (p n : ℕ) (o : Option Level) → blocked s p n o ≡ false → eqb n 0 ≡ false → meets s p o ≡ false
free_meets s p n o h e = ⊎_elim (λ k. absurd (both_ways (eqb n 0) e (not-false (eqb n 0) k))) (λ k. k) (and_cases (not (eqb n 0)) (meets s p o) h)

-- P of what is left, where it holds of the list and of the list with its level set
pub left_both : (P : List Level → Type 0) (s : QuoteSide) (p n : ℕ) (own ms : List Level) → ms ≡ cond (ninth p n own) own (with_size s p n own) → P own → P (with_size s p n own) → P ms
left_both P s p n own ms e a b = subst P (sym e) (cond_both (ninth p n own) own (with_size s p n own) P (λ _. a) (λ _. b))

-- one side's list put back leaves both
pub side_back : (f : QuoteSide → List Level) (s : QuoteSide) (ls : List Level) → f s ≡ ls → f ≡ one_side f s ls
side_back f Bid ls e = one_bid f f ls e refl
side_back f Offer ls e = one_offer f f ls e refl

-- the promise of a level call, from one side's case of it
module _ (f : QuoteSide → List Level) (p n : ℕ) (s t : QuoteSide) (e : s ≡ t) where
  pub answer_at : (r : Result (Unit {0}) MarketFault) → r ≡ set_answer t p n (f t) (f (opposite t)) → r ≡ set_answer s p n (f s) (f (opposite s))
  answer_at r h = h ∙ ap (λ x. set_answer x p n (f x) (f (opposite x))) (sym e)

  pub after_at : (g : QuoteSide → List Level) → g ≡ one_side f t (set_after t p n (f t) (f (opposite t))) → g ≡ one_side f s (set_after s p n (f s) (f (opposite s)))
  after_at g h = h ∙ ap (λ x. one_side f x (set_after x p n (f x) (f (opposite x)))) (sym e)
