-- A table of quotes, read by its series.
use Rattle.std.specs.Prelude.{◌≡◌, ℕ, ◌<◌, ◌≤◌, Bool, true, false, cond, ◌&&◌, List, [], length, get_or, replicate, Some, None, Ok, Err, Option, ◌==◌, slice_index_or, slice_set, refl}
use Rattle.std.proofs.Common.{sym, ap, ◌∙◌, ⊎_elim, arith}
use Rattle.std.proofs.Math.Path.{fun_ext}
use Rattle.std.proofs.lemmas.Bool.Decides.{nat_tests}
use Rattle.std.proofs.lemmas.List.{get_or-replicate, get_or_past, length-replicate, get_or-set_same, get_or-set_other}
use Rattle.std.proofs.lemmas.Bool.{cases_lt, cases_eq, eq-eqb, ne_eqb, cond_both, cond-true, cond-false, and_parts, and_from}
use Rattle.market.specs.declared.quote.QuoteSide.{QuoteSide}
use Rattle.market.specs.declared.quote.QuoteSide.TheVariants.{Bid, Offer}
use Rattle.market.specs.declared.quote.Level.{Level}
use Rattle.market.specs.declared.quote.MarketFault.{MarketFault}
use Rattle.market.specs.declared.quote.MarketFault.TheVariants.{Take}
use Rattle.market.specs.declared.quote.TwoSided.{TwoSided}
use Rattle.market.specs.Levels.{no_levels, InRange, Ranked, can_take, less, less_first, take_answer, replaced, taken_at, best_of}
use Rattle.venues.specs.Ordered.{in_range, ok_level, apart, Uncrossed}
use Rattle.market.specs.Sides.{same_side, side_of, with_side}
use Rattle.venues.specs.Quotes.{no_quote, as_list, table_levels, sound, quoted_at, rest_of, taken_level}

-- every place of a table of one value, past its end too
pub get_d_filled : {X : Type 0} (n k : ℕ) (x : X) → slice_index_or (replicate n x) k x ≡ x
get_d_filled n k x =
    ⊎_elim (λ h. get_or-replicate n k x x h)
    (λ h. get_or_past (replicate n x) k x (rw (length-replicate n x) h)) (cases_lt k n)

none_as_list : (s : QuoteSide) → as_list (side_of no_quote s) ≡ []
none_as_list Bid = refl
none_as_list Offer = refl

pub table_filled : (n : ℕ) → table_levels (replicate n no_quote) ≡ no_levels
table_filled n = fun_ext (λ k. fun_ext (λ s. ap (λ q. as_list (side_of q s)) (get_d_filled n k no_quote) ∙ none_as_list s))

pub table_past : (qs : List (TwoSided Level)) (k : ℕ) (s : QuoteSide) → length qs ≤ k → table_levels qs k s ≡ []
table_past qs k s h = ap (λ q. as_list (side_of q s)) (get_or_past qs k no_quote h) ∙ none_as_list s

-- what stands at k after a write at i
pub get_d_after : {X : Type 0} (xs : List X) (i k : ℕ) (x d : X) → i < length xs → slice_index_or (slice_set xs i x) k d ≡ cond (k == i) x (slice_index_or xs k d)
get_d_after xs i k x d h =
    ⊎_elim
    (λ (e : k ≡ i). rw (eq-eqb k i e, e) (get_or-set_same xs i x d h))
    (λ (n : k ≡ i → ⊥). rw (ne_eqb k i n) (get_or-set_other xs i k x d n)) (cases_eq k i)

pub sound_set : (qs : List (TwoSided Level)) (i : ℕ) (q : TwoSided Level) → i < length qs → sound q ≡ true → ((k : ℕ) → sound (slice_index_or qs k no_quote) ≡ true) → (k : ℕ) → sound (slice_index_or (slice_set qs i q) k no_quote) ≡ true
sound_set qs i q h sq all k =
    ap sound (get_d_after qs i k q no_quote h) ∙ cond_both (k == i) q (slice_index_or qs k no_quote) (λ x. sound x ≡ true) (λ _. sq) (λ _. all k)

ap_cond : {X Y : Type 0} (f : X → Y) (b : Bool) (x y : X) → f (cond b x y) ≡ cond b (f x) (f y)
ap_cond f true x y = refl
ap_cond f false x y = refl

pub table_set : (qs : List (TwoSided Level)) (i : ℕ) (q : TwoSided Level) → i < length qs → table_levels (slice_set qs i q) ≡ quoted_at (table_levels qs) i q
table_set qs i q h = fun_ext (λ k. fun_ext (λ s. ap (λ x. as_list (side_of x s)) (get_d_after qs i k q no_quote h) ∙ ap_cond (λ x. as_list (side_of x s)) (k == i) q (slice_index_or qs k no_quote)))

-- a quote with one side replaced, in its table
with_there : (qs : List (TwoSided Level)) (i j : ℕ) (s t : QuoteSide) (o : Option Level) → cond (j == i) (as_list (side_of (with_side (slice_index_or qs i no_quote) s o) t)) (table_levels qs j t) ≡ cond (j == i && same_side t s) (as_list o) (table_levels qs j t)
with_there qs i j Bid Bid o = grind (arith, nat_tests)
with_there qs i j Bid Offer o = grind (arith, nat_tests)
with_there qs i j Offer Bid o = grind (arith, nat_tests)
with_there qs i j Offer Offer o = grind (arith, nat_tests)

pub table_with : (qs : List (TwoSided Level)) (i : ℕ) (s : QuoteSide) (o : Option Level) → i < length qs → table_levels (slice_set qs i (with_side (slice_index_or qs i no_quote) s o)) ≡ replaced (table_levels qs) i s (as_list o)
table_with qs i s o h = table_set qs i _ h ∙ fun_ext (λ j. fun_ext (λ t. with_there qs i j s t o))

-- a take from a side of at most one level, as one from its list
pub taken_ok : (o : Option Level) (n : ℕ) (r : Option Level) → taken_level o n ≡ Ok r → (can_take (as_list o) n ≡ true) × (less_first (as_list o) n ≡ as_list r)
taken_ok None n r e = let z : ◌≡◌ {A = ℕ} 0 1 = cc in absurd (omega arith)
taken_ok (Some l) n r e = (grind (arith, nat_tests), grind (arith, nat_tests))

pub taken_err : (o : Option Level) (n : ℕ) (f : MarketFault) → taken_level o n ≡ Err f → (can_take (as_list o) n ≡ false) × (f ≡ Take)
taken_err None n f e = (refl, cc)
taken_err (Some l) n f e = (grind (arith, nat_tests), grind (arith, nat_tests))

pub in_range_lem : (l : Level) → in_range l ≡ true → InRange l
in_range_lem l h = (grind (arith, nat_tests), grind (arith, nat_tests), grind (arith, nat_tests), grind (arith, nat_tests))

rest_is : (l : Level) (n : ℕ) (r : Option Level) → taken_level (Some l) n ≡ Ok r → (1 ≤ n) × (n ≤ l.size) × (r ≡ rest_of l n)
rest_is l n r e = (grind (arith, nat_tests), grind (arith, nat_tests), grind (arith, nat_tests))

-- what a take leaves of a level is in range, at the same price
ok_rest : (l : Level) (n : ℕ) → 1 ≤ n → n ≤ l.size → in_range l ≡ true → ok_level (rest_of l n) ≡ true
ok_rest l n a b h =
    cond_both (l.size == n) None (Some (less l n)) (λ x. ok_level x ≡ true)
    (λ _. refl) (λ e. grind (arith, nat_tests))

bid_rest : (l : Level) (n : ℕ) (o : Option Level) → apart (Some l) o ≡ true → apart (rest_of l n) o ≡ true
bid_rest l n None h = cond_both (l.size == n) None (Some (less l n)) (λ x. apart x None ≡ true) (λ _. refl) (λ _. refl)
bid_rest l n (Some m) h = cond_both (l.size == n) None (Some (less l n)) (λ x. apart x (Some m) ≡ true) (λ _. refl) (λ _. h)

offer_rest : (l : Level) (n : ℕ) (b : Option Level) → apart b (Some l) ≡ true → apart b (rest_of l n) ≡ true
offer_rest l n None h = refl
offer_rest l n (Some m) h = cond_both (l.size == n) None (Some (less l n)) (λ x. apart (Some m) x ≡ true) (λ _. refl) (λ _. h)

-- a take leaves a sound quote
pub sound_taken : (q : TwoSided Level) (s : QuoteSide) (n : ℕ) (r : Option Level) → sound q ≡ true → taken_level (side_of q s) n ≡ Ok r → sound (with_side q s r) ≡ true
sound_taken q s n r h e = by_side q.bid q.offer s n r h e
  where
    by_side : (b o : Option Level) (s : QuoteSide) (n : ℕ) (r : Option Level) → sound (record { bid = b; offer = o }) ≡ true → taken_level (side_of (record { bid = b; offer = o }) s) n ≡ Ok r → sound (with_side (record { bid = b; offer = o }) s r) ≡ true
    by_side None o Bid n r h e = let z : ◌≡◌ {A = ℕ} 0 1 = cc in absurd (omega arith)
    by_side (Some l) o Bid n r h e =
        let t = rest_is l n r e in
        let p = and_parts (in_range l) (ok_level o && apart (Some l) o) h in
        let p2 = and_parts (ok_level o) (apart (Some l) o) p.1 in
        rw t.2 (and_from (ok_level (rest_of l n)) _ (ok_rest l n t.0 t.1 p.0) (and_from (ok_level o) _ p2.0 (bid_rest l n o p2.1)))
    by_side b None Offer n r h e = let z : ◌≡◌ {A = ℕ} 0 1 = cc in absurd (omega arith)
    by_side b (Some l) Offer n r h e =
        let t = rest_is l n r e in
        let p = and_parts (ok_level b) (in_range l && apart b (Some l)) h in
        let p2 = and_parts (in_range l) (apart b (Some l)) p.1 in
        rw t.2 (and_from (ok_level b) _ p.0 (and_from (ok_level (rest_of l n)) _ (ok_rest l n t.0 t.1 p2.0) (offer_rest l n b p2.1)))

ranked_level : (s : QuoteSide) (o : Option Level) → ok_level o ≡ true → Ranked s (as_list o)
ranked_level s None h = tt
ranked_level s (Some l) h = in_range_lem l h

pub ranked_quote : (q : TwoSided Level) (s : QuoteSide) → sound q ≡ true → Ranked s (as_list (side_of q s))
ranked_quote q Bid h = ranked_level Bid q.bid (and_parts (ok_level q.bid) (ok_level q.offer && apart q.bid q.offer) h).0
ranked_quote q Offer h = ranked_level Offer q.offer (and_parts (ok_level q.offer) (apart q.bid q.offer) (and_parts (ok_level q.bid) (ok_level q.offer && apart q.bid q.offer) h).1).0

-- the three ways of a take from a table
module _ (qs : List (TwoSided Level)) (k : ℕ) (s : QuoteSide) (n : ℕ) where
  pub refused_answer : can_take (table_levels qs k s) n ≡ false → take_answer (table_levels qs k s) n ≡ Err Take
  refused_answer e = cond-false (can_take (table_levels qs k s) n) (Ok tt) (Err Take) e

  pub past_refused : length qs ≤ k → can_take (table_levels qs k s) n ≡ false
  past_refused h = ap (λ ls. can_take ls n) (table_past qs k s h)

  pub done_answer : (r : Option Level) → taken_level (side_of (slice_index_or qs k no_quote) s) n ≡ Ok r → take_answer (table_levels qs k s) n ≡ Ok tt
  done_answer r e = cond-true (can_take (table_levels qs k s) n) (Ok tt) (Err Take) (taken_ok (side_of (slice_index_or qs k no_quote) s) n r e).0

  pub done_after : (r : Option Level) → taken_level (side_of (slice_index_or qs k no_quote) s) n ≡ Ok r → k < length qs → table_levels (slice_set qs k (with_side (slice_index_or qs k no_quote) s r)) ≡ taken_at (table_levels qs) k s n
  done_after r e h =
      let t = taken_ok (side_of (slice_index_or qs k no_quote) s) n r e in
      table_with qs k s r h ∙ ap (replaced (table_levels qs) k s) (sym t.1 ∙ sym (cond-true (can_take (table_levels qs k s) n) (less_first (table_levels qs k s) n) (table_levels qs k s) t.0))

pub first_as_list : (o : Option Level) → best_of (as_list o) ≡ o
first_as_list None = refl
first_as_list (Some l) = refl

pub table_uncrossed : (qs : List (TwoSided Level)) → ((k : ℕ) → sound (slice_index_or qs k no_quote) ≡ true) → Uncrossed (table_levels qs)
table_uncrossed qs ok k =
    let q = get_or qs k no_quote in
    let p = and_parts (ok_level q.bid) (ok_level q.offer && apart q.bid q.offer) (ok k) in
    let a = and_parts (ok_level q.offer) (apart q.bid q.offer) p.1 in
    ap (λ o. apart o (best_of (as_list q.offer))) (first_as_list q.bid) ∙ ap (apart q.bid) (first_as_list q.offer) ∙ a.1
