-- The checks of an order and of its legs.
use Rattle.std.specs.Prelude.{ℕ, ◌+◌, ◌*◌, ◌%◌, Bool, cond, not, ◌&&◌, ◌||◌, List, [], ◌∷◌, ◌++◌, map, length, Some, None, Ok, Option, Result, nat_eq, nat_le, nat_lt}
use Rattle.std.specs.List.{list_any, list_all, range_with_len}
use Rattle.market.specs.declared.leg.TradedLeg.{TradedLeg}
use Rattle.orders.specs.declared.fault.OrderFault.{OrderFault}
use Rattle.orders.specs.declared.fault.OrderFault.TheVariants.{LegCount, Range, Repeated, Ratios}
use Rattle.orders.specs.declared.records.LegTerms.{LegTerms}
use Rattle.orders.specs.declared.records.LegList.{LegList}
use Rattle.orders.specs.LegLists.{is_few, legs_of}
use Rattle.orders.specs.Checks.{check, check_at, first_bad}
use Rattle.orders.specs.Ranges.{leg_in_range, ratio_of, series_number, traded_leg}

abbrev pub two_to_four : ℕ → Bool
two_to_four n = nat_le 2 n && nat_le n 4

-- the legs with their numbers in range, or the first that has one outside
abbrev pub legs_in_range : List LegTerms → Result (List TradedLeg) OrderFault
legs_in_range legs = check_at (first_bad leg_in_range 1 legs) Range (Ok (map traded_leg legs))

-- whether one of some series is k
abbrev pub names : ℕ → List ℕ → Bool
names k series = list_any (λ s. nat_eq s k) series

-- the first leg whose series an earlier one names; legs are counted from n
abbrev pub repeated : List ℕ → ℕ → List ℕ → Option ℕ
repeated earlier n [] = None
repeated earlier n (k ∷ ks) = cond (names k earlier) (Some n) (repeated (earlier ++ k ∷ []) (n + 1) ks)

-- whether a ratio is above three times one of some ratios
abbrev pub above_thrice : ℕ → List ℕ → Bool
above_thrice a ratios = list_any (λ b. nat_lt (3 * b) a) ratios

-- a ratio is above three times another
abbrev pub uneven : List ℕ → Bool
uneven ratios = list_any (λ a. above_thrice a ratios) ratios

abbrev pub divides_all : ℕ → List ℕ → Bool
divides_all d ratios = list_all (λ r. nat_eq (r % d) 0) ratios

-- a number above 1 divides all ratios: one of 2 to 12, since they are at most 12
abbrev pub reducible : List ℕ → Bool
reducible ratios = list_any (λ d. divides_all d ratios) (range_with_len 2 11)

-- the legs as a market trades them, or why they are refused
abbrev pub legs_checked : List LegTerms → Result (List TradedLeg) OrderFault
legs_checked legs =
    check_at (first_bad leg_in_range 1 legs) Range (
    check_at (repeated [] 1 (map series_number legs)) Repeated (
    check (not (uneven (map ratio_of legs) || reducible (map ratio_of legs))) Ratios (
    Ok (map traded_leg legs))))

abbrev pub checked_legs : LegList → Result (List TradedLeg) OrderFault
checked_legs l = check (is_few l) LegCount (legs_checked (legs_of l))

-- the same over all legs, however many
abbrev pub whole_checked : List LegTerms → Result (List TradedLeg) OrderFault
whole_checked all = check (two_to_four (length all)) LegCount (legs_checked all)
