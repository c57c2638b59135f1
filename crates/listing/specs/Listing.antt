-- What listing a series answers and leaves.
use Rattle.std.specs.Prelude.{ℕ, Bool, true, false, cond, ◌&&◌, List, [], ◌∷◌, ◌++◌, length, Ok, Err, Result, ◌==◌, nat_le}
use Rattle.std.specs.List.{list_any}
use Rattle.strategy.specs.declared.leg.Kind.{Kind}
use Rattle.strategy.specs.declared.leg.Kind.TheVariants.{Call, Put}
use Rattle.strategy.specs.declared.leg.Series.{Series}
use Rattle.strategy.specs.Legs.{option}
use Rattle.orders.specs.declared.fault.GateFault.{GateFault}
use Rattle.orders.specs.declared.fault.GateFault.TheVariants.{TableFull, AlreadyListed}

abbrev pub same_kind : Kind → Kind → Bool
same_kind Call Call = true
same_kind Call Put = false
same_kind Put Call = false
same_kind Put Put = true

abbrev pub same_series : Series → Series → Bool
same_series a b = a.underlying == b.underlying && (same_kind a.kind b.kind && (a.strike == b.strike && a.expiry == b.expiry))

abbrev pub is_listed : Series → List Series → Bool
is_listed x t = list_any (λ y. same_series y x) t

-- the number of a new series: 256 fill the table, and none is listed twice
abbrev pub listing_answer : List Series → Series → Result ℕ GateFault
listing_answer t x = cond (nat_le 256 (length t)) (Err TableFull) (cond (is_listed x t) (Err AlreadyListed) (Ok (length t)))

abbrev pub listing_after : List Series → Series → List Series
listing_after t x = cond (nat_le 256 (length t)) t (cond (is_listed x t) t (t ++ x ∷ []))

-- what stands past the last series
abbrev pub no_series : Series
no_series = option 0 Call 0 0
