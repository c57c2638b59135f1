-- The scanner's next state.
use Rattle.std.specs.Prelude.{ℕ, zero, suc, Bool, true, false, cond, ◌&&◌, List, [], ◌∷◌, Some, None, Option, ◌==◌, nat_le}
use Rattle.lines.specs.declared.scan.State.{State}
use Rattle.lines.specs.declared.scan.State.TheVariants.{Start, Name, Item, Member, Minus, Letters, Digits, Done}

abbrev pub within : ℕ → ℕ → ℕ → Bool
within a z b = nat_le a b && nat_le b z

-- after a word, a number or a group
abbrev pub ended : Bool → ℕ → Option State
ended g b = cond (b == 32) (Some (cond g Member Item)) (cond (b == 41) (Some (cond g (Digits false 0) Done)) None)

-- the first digit of a number with more digits to come, at most eight
abbrev pub leading : Bool → ℕ → Option State
leading g b = cond (within 49 57 b) (Some (Digits g 8)) None

-- the first byte of a word or a number
abbrev pub opening : Bool → ℕ → Option State
opening g b = cond (within 97 122 b) (Some (Letters g 8)) (cond (b == 45) (Some (Minus g)) (cond (b == 48) (Some (Digits g 0)) (leading g b)))

abbrev pub next : State → ℕ → Option State
next Start b = cond (b == 40) (Some Name) None
next Name b = cond (within 97 122 b) (Some (Letters false 8)) None
next Item b = cond (b == 40) (Some Member) (opening false b)
next Member b = opening true b
next (Minus g) b = leading g b
next (Letters g zero) b = ended g b
next (Letters g (suc n)) b = cond (within 97 122 b) (Some (Letters g n)) (ended g b)
next (Digits g zero) b = ended g b
next (Digits g (suc n)) b = cond (within 48 57 b) (Some (Digits g n)) (ended g b)
next Done b = None

abbrev pub onto : Option State → ℕ → Option State
onto None b = None
onto (Some s) b = next s b

-- the state after the bytes, None where one of them was refused
abbrev pub run : Option State → List ℕ → Option State
run o [] = o
run o (b ∷ bs) = run (onto o b) bs
