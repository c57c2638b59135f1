-- The market of a table of series.
use Rattle.std.specs.Prelude.{◌≡◌, ℕ, zero, suc, ◌<◌, ◌≤◌, true, cond, List, [], ◌∷◌, map, length, get_or, ◌==◌, slice_index_or, slice_set, refl}
use Rattle.std.proofs.Common.{sym, ap, ◌∙◌, ⊎_elim, arith}
use Rattle.std.proofs.Math.Path.{fun_ext}
use Rattle.std.proofs.lemmas.List.{get_or_past, get_or-map, length-map, map-set}
use Rattle.std.proofs.lemmas.Bool.{cases_eq, eq-eqb, ne_eqb}
use Rattle.market.specs.declared.quote.QuoteSide.{QuoteSide}
use Rattle.market.specs.declared.quote.QuoteSide.TheVariants.{Bid, Offer}
use Rattle.market.specs.declared.quote.Level.{Level}
use Rattle.venues.specs.declared.series.SeriesDepth.{SeriesDepth}
use Rattle.market.specs.Levels.{Levels, replaced}
use Rattle.venues.specs.Ordered.{ordered, Uncrossed}
use Rattle.venues.specs.SeriesDepths.{no_depth, series_levels, one_side}
use Rattle.venues.specs.Ladders.{rows_levels}
use Rattle.venues.specs.Tables.{get_d_after}

side_there : (b : Levels) (j k : ℕ) (t s : QuoteSide) (ls : List Level) → cond (j == k) (one_side (b k) s ls) (b j) t ≡ replaced b k s ls j t
side_there b j k t s ls = ⊎_elim (λ (e : j ≡ k). rw (eq-eqb j k e, e)) (λ (n : j ≡ k → ⊥). rw (ne_eqb j k n)) (cases_eq j k)

module _ (rs : List SeriesDepth) (k : ℕ) where
  pub row_past : (s : QuoteSide) → length rs ≤ k → rows_levels rs k s ≡ []
  row_past s h = ap (λ f. f s) (get_or_past (map series_levels rs) k no_depth (rw (length-map rs series_levels) h))

  module _ (h : k < length rs) where
    pub row_at : (d : SeriesDepth) → rows_levels rs k ≡ series_levels (slice_index_or rs k d)
    row_at d = get_or-map series_levels rs k d no_depth h

    row_set : (r : SeriesDepth) (j : ℕ) → rows_levels (slice_set rs k r) j ≡ cond (j == k) (series_levels r) (rows_levels rs j)
    row_set r j = ap (λ fs. get_or fs j no_depth) (map-set series_levels rs k r) ∙ get_d_after (map series_levels rs) k j (series_levels r) no_depth (rw (length-map rs series_levels) h)

    -- a row in which one side's list is replaced
    pub row_side : (d r : SeriesDepth) (s : QuoteSide) (ls : List Level) → series_levels r ≡ one_side (series_levels (slice_index_or rs k d)) s ls → rows_levels (slice_set rs k r) ≡ replaced (rows_levels rs) k s ls
    row_side d r s ls e =
        fun_ext (λ j. fun_ext (λ t.
        ap (λ f. f t) (row_set r j ∙ ap (λ f. cond (j == k) f (rows_levels rs j)) (e ∙ ap (λ f. one_side f s ls) (sym (row_at d))))
        ∙ side_there (rows_levels rs) j k t s ls))

series_ordered : (d : SeriesDepth) (s : QuoteSide) → ordered s (series_levels d s) ≡ true
series_ordered d Bid = d.falling
series_ordered d Offer = d.rising

pub rows_ordered : (ds : List SeriesDepth) (k : ℕ) (s : QuoteSide) → ordered s (rows_levels ds k s) ≡ true
rows_ordered [] k s = refl
rows_ordered (d ∷ ds) zero s = series_ordered d s
rows_ordered (d ∷ ds) (suc k) s = rows_ordered ds k s

pub rows_uncrossed : (ds : List SeriesDepth) → Uncrossed (rows_levels ds)
rows_uncrossed [] k = refl
rows_uncrossed (d ∷ ds) zero = d.clear
rows_uncrossed (d ∷ ds) (suc k) = rows_uncrossed ds k

-- rows without a level
pub rows_new : (ds : List SeriesDepth) → ((k : ℕ) (d : SeriesDepth) → k < length ds → series_levels (slice_index_or ds k d) ≡ no_depth) → (k : ℕ) → rows_levels ds k ≡ no_depth
rows_new [] e k = refl
rows_new (d ∷ ds) e zero = e 0 d (omega arith)
rows_new (d ∷ ds) e (suc k) = rows_new ds (λ j x h. e (suc j) x (omega arith)) k
