-- The size shown at a price of ordered levels.
use Rattle.std.proofs.Common.{◌≡◌, ℕ, ◌<◌, ◌≤◌, Bool, true, false, cond, not, ◌&&◌, eqb, leb, List, [], ◌∷◌, length, pos, is_ok, Some, None, Ok, Err, Option, Result, sym, refl, ap, ◌∙◌, ⊎_elim, arith}
use Rattle.std.proofs.lemmas.Bool.{cond-true, cond-false, cond_both, cases_Bool, cases_eq, eq-eqb, eqb-true, lt-leb, le-leb, ne_eqb, and_left, and_right, and_from, not_from_true, not_from_false}
use Rattle.std.proofs.lemmas.Bool.Decides.{nat_tests}
use Rattle.market.specs.declared.quote.QuoteSide.{QuoteSide}
use Rattle.market.specs.declared.quote.QuoteSide.TheVariants.{Bid, Offer}
use Rattle.market.specs.declared.quote.Level.{Level}
use Rattle.market.specs.declared.quote.MarketFault.{MarketFault}
use Rattle.market.specs.declared.quote.MarketFault.TheVariants.{Meets, NinthLevel}
use Rattle.market.specs.declared.terms.LevelTerms.{LevelTerms}
use Rattle.market.specs.Sides.{opposite}
use Rattle.market.specs.Levels.{Levels, replaced, best_of}
use Rattle.venues.specs.Ordered.{in_range, better, ahead, ordered}
use Rattle.venues.specs.Numbers.{within}
use Rattle.venues.specs.Sizes.{size_at, ninth, blocked, in_front, with_size, set_answer, set_after, stands}
use Rattle.venues.specs.LevelCalls.{level_call_from, level_call, level_answer, level_after, ShowsSize}
use Rattle.market.proofs.Replaced.{replaced_here, replaced_same}
use Rattle.venues.specs.Ranks.{head_in, head_ahead, tail_ordered}
use Rattle.venues.proofs.Sizes.{better_other, ahead_past, sized_both}

better_ne : (s : QuoteSide) (a b : ℕ) → better s a b ≡ true → eqb b a ≡ false
better_ne Bid a b h = grind (arith, nat_tests)
better_ne Offer a b h = grind (arith, nat_tests)

ne_better : (s : QuoteSide) (a b : ℕ) → better s a b ≡ true → eqb a b ≡ false
ne_better Bid a b h = grind (arith, nat_tests)
ne_better Offer a b h = grind (arith, nat_tests)

has_size : (l : Level) → in_range l ≡ true → eqb l.size 0 ≡ false
has_size l h = grind (arith, nat_tests)

-- nothing is shown at a price better than all levels
ahead_none : (s : QuoteSide) (p : ℕ) (ls : List Level) → ordered s ls ≡ true → ahead s p ls ≡ true → size_at ls p ≡ 0
ahead_none s p [] r a = refl
ahead_none s p (l ∷ ls) r a = cond-false (eqb l.price p) l.size (size_at ls p) (better_ne s p l.price a) ∙ ahead_none s p ls (tail_ordered s l ls r) (ahead_past s p l ls a (head_ahead s l ls r))

-- a size is shown at a price exactly where it stands
module _ (s : QuoteSide) (p : ℕ) where
  stands_shown : (ls : List Level) → ordered s ls ≡ true → stands s p ls ≡ true → eqb (size_at ls p) 0 ≡ false
  stands_shown [] r q = let z : ◌≡◌ {A = ℕ} 0 1 = cc in absurd (omega arith)
  stands_shown (l ∷ ls) r q =
      ⊎_elim (λ e. rw (ne_better s l.price p e) (stands_shown ls (tail_ordered s l ls r) (rw e at q)))
      (λ e. rw (rw e at q) (has_size l (head_in s l ls r))) (cases_Bool (better s l.price p))

  away_none : (ls : List Level) → ordered s ls ≡ true → stands s p ls ≡ false → size_at ls p ≡ 0
  away_none [] r q = refl
  away_none (l ∷ ls) r q =
      ⊎_elim (λ e. rw (ne_better s l.price p e) (away_none ls (tail_ordered s l ls r) (rw e at q)))
      (λ e. ahead_none s p (l ∷ ls) r (better_other s l.price p e (rw e at q))) (cases_Bool (better s l.price p))

-- what is shown once a size is set
module _ (p n q : ℕ) where
  front_shown : (ls : List Level) → size_at ls p ≡ 0 → size_at (in_front p n ls) q ≡ cond (eqb q p) n (size_at ls q)
  front_shown ls h =
      cond_both (eqb n 0) ls (record { price = p; size = n } ∷ ls) (λ xs. size_at xs q ≡ cond (eqb q p) n (size_at ls q))
      (λ e. ⊎_elim (λ (w : q ≡ p). rw (eq-eqb q p w) (ap (size_at ls) w ∙ h ∙ sym (eqb-true n 0 e))) (λ (w : q ≡ p → ⊥). rw (ne_eqb q p w)) (cases_eq q p))
      (λ _. ⊎_elim (λ (w : q ≡ p). rw (eq-eqb q p w, eq-eqb p q (sym w))) (λ (w : q ≡ p → ⊥). rw (ne_eqb q p w, ne_eqb p q (λ v. w (sym v)))) (cases_eq q p))

  past_shown : (l : Level) (x : ℕ) → eqb l.price p ≡ false → cond (eqb l.price q) l.size (cond (eqb q p) n x) ≡ cond (eqb q p) n (cond (eqb l.price q) l.size x)
  past_shown l x e = grind (arith, nat_tests)

  here_shown : (l : Level) (x : ℕ) → eqb l.price p ≡ true → cond (eqb q p) n x ≡ cond (eqb q p) n (cond (eqb l.price q) l.size x)
  here_shown l x e = grind (arith, nat_tests)

  pub size_shown : (s : QuoteSide) (ls : List Level) → ordered s ls ≡ true → size_at (with_size s p n ls) q ≡ cond (eqb q p) n (size_at ls q)
  size_shown s [] r = front_shown [] refl
  size_shown s (l ∷ ls) r =
      sized_both (λ xs. size_at xs q ≡ cond (eqb q p) n (size_at (l ∷ ls) q)) s p n l ls
      (λ b. ap (cond (eqb l.price q) l.size) (size_shown s ls (tail_ordered s l ls r)) ∙ past_shown l (size_at ls q) (ne_better s l.price p b))
      (λ _ e. front_shown ls (ahead_none s p ls (tail_ordered s l ls r) (ap (λ k. ahead s k ls) (sym (eqb-true l.price p e)) ∙ head_ahead s l ls r)) ∙ here_shown l (size_at ls q) e)
      (λ b e. front_shown (l ∷ ls) (ahead_none s p (l ∷ ls) r (better_other s l.price p b e)))

-- when a level is no ninth
module _ (p n : ℕ) (ls : List Level) where
  pub ninth_none : n ≡ 0 → ninth p n ls ≡ false
  ninth_none e = and_left (not (eqb n 0)) (eqb (size_at ls p) 0 && leb 8 (length ls)) (not_from_true (eqb n 0) (eq-eqb n 0 e))

  pub ninth_room : length ls < 8 → ninth p n ls ≡ false
  ninth_room h = and_right (not (eqb n 0)) (eqb (size_at ls p) 0 && leb 8 (length ls)) (and_right (eqb (size_at ls p) 0) (leb 8 (length ls)) (lt-leb 8 (length ls) h))

  module _ (s : QuoteSide) (r : ordered s ls ≡ true) where
    pub ninth_here : stands s p ls ≡ true → ninth p n ls ≡ false
    ninth_here q = and_right (not (eqb n 0)) (eqb (size_at ls p) 0 && leb 8 (length ls)) (and_left (eqb (size_at ls p) 0) (leb 8 (length ls)) (stands_shown s p ls r q))

    pub ninth_away : stands s p ls ≡ false → eqb n 0 ≡ false → 8 ≤ length ls → ninth p n ls ≡ true
    ninth_away q e h = and_from (not (eqb n 0)) (eqb (size_at ls p) 0 && leb 8 (length ls)) (not_from_false (eqb n 0) e) (and_from (eqb (size_at ls p) 0) (leb 8 (length ls)) (eq-eqb (size_at ls p) 0 (away_none s p ls r q)) (le-leb 8 (length ls) h))

-- what a level call leaves
module _ (b : Levels) (k : ℕ) (s : QuoteSide) where
  left_by : (met deep : Bool) (ls : List Level) → replaced b k s (cond met (b k s) (cond deep (b k s) ls)) ≡ cond (is_ok {T = Unit {0}} (cond met (Err Meets) (cond deep (Err NinthLevel) (Ok tt)))) (replaced b k s ls) b
  left_by true deep ls = replaced_same b k s
  left_by false true ls = replaced_same b k s
  left_by false false ls = refl

  pub call_left : (p n : ℕ) (other : List Level) → replaced b k s (set_after s p n (b k s) other) ≡ cond (is_ok (set_answer s p n (b k s) other)) (replaced b k s (with_size s p n (b k s))) b
  call_left p n other = left_by (blocked s p n (best_of other)) (ninth p n (b k s)) (with_size s p n (b k s))

within_is : (low high n m : ℕ) → within low high (pos n) ≡ Some m → m ≡ n
within_is low high n m = cond_both (leb low n && leb n high) (Some n) None (λ x. x ≡ Some m → m ≡ n) (λ _ e. cc) (λ _ e. absurd (let z : ◌≡◌ {A = ℕ} 0 1 = cc in omega arith))

module _ (b : Levels) (s : QuoteSide) (fine : (k : ℕ) → ordered s (b k s) ≡ true) (k p n q : ℕ) where
  call_shown : set_answer s p n (b k s) (b k (opposite s)) ≡ Ok tt → size_at (level_after b s (Ok (k, record { price = p; size = n })) k s) q ≡ cond (eqb q p) n (size_at (b k s) q)
  call_shown ok =
      ap (λ f. size_at (f k s) q) (cond-true (is_ok (set_answer s p n (b k s) (b k (opposite s)))) (replaced b k s (with_size s p n (b k s))) b (ap is_ok ok))
      ∙ ap (λ ls. size_at ls q) (replaced_here b k s (with_size s p n (b k s))) ∙ size_shown p n q s (b k s) (fine k)

  from_shown : (x y z : Option ℕ) → ((m : ℕ) → x ≡ Some m → m ≡ p) → ((m : ℕ) → y ≡ Some m → m ≡ n) → ((m : ℕ) → z ≡ Some m → m ≡ k) → level_answer b s (level_call_from x y z) ≡ Ok tt → size_at (level_after b s (level_call_from x y z) k s) q ≡ cond (eqb q p) n (size_at (b k s) q)
  from_shown None y z ex ey ez ok = absurd (let w : ◌≡◌ {A = ℕ} 0 1 = cc in omega arith)
  from_shown (Some x) None z ex ey ez ok = absurd (let w : ◌≡◌ {A = ℕ} 0 1 = cc in omega arith)
  from_shown (Some x) (Some y) None ex ey ez ok = absurd (let w : ◌≡◌ {A = ℕ} 0 1 = cc in omega arith)
  from_shown (Some x) (Some y) (Some z) ex ey ez ok = rw (ex x refl, ey y refl, ez z refl) (call_shown (rw (ex x refl, ey y refl, ez z refl) at ok))

pub level_shows : (last : ℕ) (b a : Levels) (x : LevelTerms) → ((k : ℕ) → ordered x.side (b k x.side) ≡ true) → level_answer b x.side (level_call last x) ≡ Ok tt → a ≡ level_after b x.side (level_call last x) → ShowsSize b a x
level_shows last b a x fine ok after k p n q ek ep en =
    ap (λ c. size_at (c k x.side) q) after
    ∙ from_shown b x.side fine k p n q (within 1 65534 x.price) (within 0 1000000 x.size) (within 0 last x.series)
    (λ m e. within_is 1 65534 p m (ap (within 1 65534) (sym ep) ∙ e)) (λ m e. within_is 0 1000000 n m (ap (within 0 1000000) (sym en) ∙ e)) (λ m e. within_is 0 last k m (ap (within 0 last) (sym ek) ∙ e)) ok

-- the answer and the list where a level is no ninth
module _ (s : QuoteSide) (p n : ℕ) (ls : List Level) (few : ninth p n ls ≡ false) where
  pub set_answer_lem : ◌≡◌ {A = Result (Unit {0}) MarketFault} (Ok tt) (cond (ninth p n ls) (Err NinthLevel) (Ok tt))
  set_answer_lem = sym (cond-false (ninth p n ls) (Err NinthLevel) (Ok tt) few)

  pub set_after_lem : (ms : List Level) → ms ≡ with_size s p n ls → ms ≡ cond (ninth p n ls) ls (with_size s p n ls)
  set_after_lem ms e = e ∙ sym (cond-false (ninth p n ls) ls (with_size s p n ls) few)
