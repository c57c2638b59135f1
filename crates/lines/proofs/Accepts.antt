-- The scanner accepts just the forms.
use Rattle.std.proofs.Common.{◌≡◌, ℕ, zero, suc, ◌+◌, ◌-◌, ◌^◌, ◌<◌, ◌≤◌, Bool, true, false, cond, eqb, List, [], ◌∷◌, ◌++◌, length, get_or, take, drop, ℤ, pos, negsuc, nat_abs, Some, None, decimal, Option, sym, refl, ap, ◌∙◌, subst, ⊎_elim, append_assoc, arith, rules}
use Rattle.std.specs.Str.Parse.{digits_value as value}
use Rattle.std.specs.Int.{IsInRange}
use Rattle.std.specs.Fmt.{signed_decimal}
use Rattle.std.specs.List.{AllByRecursion}
use Rattle.std.proofs.lemmas.Fmt.{decimal_digit, first_decimal, length-decimal-le, digits_decimal, decimal-digits_value}
use Rattle.std.proofs.lemmas.List.{nil_from_length, take_more, take_all, take-append-drop}
use Rattle.std.proofs.lemmas.Str.Parse.{IsNumeralModel, numerals_by_value, digits_value_short}
use Rattle.std.proofs.lemmas.Bool.{cases_lt, cond-true, and_from, and_parts, le-leb, leb-true, eqb-true}
use Rattle.std.proofs.lemmas.Bool.Decides.{nat_tests}
use Rattle.lines.specs.declared.scan.State.{State}
use Rattle.lines.specs.declared.scan.State.TheVariants.{Start, Name, Item, Member, Minus, Letters, Digits, Done}
use Rattle.lines.specs.Forms as forms
use Rattle.lines.specs.Forms.{Letter, IsWord, Atom, word, number, single, group, IsAtom, IsItem, atom_text, item_text, spaced_atoms, spaced_items, form_text, Spells, Form, Begins, FaultAt}
use Rattle.lines.specs.Scanner.{within, ended, leading, opening, next, onto, run}

abbrev pub Digit : ℕ → Type 0
Digit b = IsInRange 48 57 b

pub run_none : (bs : List ℕ) → run None bs ≡ None
run_none [] = refl
run_none (b ∷ bs) = run_none bs

pub run_append : (o : Option State) (xs ys : List ℕ) → run o (xs ++ ys) ≡ run (run o xs) ys
run_append o [] ys = refl
run_append o (x ∷ xs) ys = run_append (onto o x) xs ys

inside : (a z b : ℕ) → a ≤ b → b ≤ z → within a z b ≡ true
inside a z b h k = and_from _ _ (le-leb a b h) (le-leb b z k)

bounds : (a z b : ℕ) → within a z b ≡ true → (a ≤ b) × (b ≤ z)
bounds a z b e = let p = and_parts _ _ e in (leb-true a b p.0, leb-true b z p.1)

-- Every form is accepted.

letters_run : (g : Bool) (room : ℕ) (w t : List ℕ) → AllByRecursion Letter w → length w ≤ room → (left : ℕ) × (run (Some (Letters g room)) (w ++ t) ≡ run (Some (Letters g left)) t)
letters_run g room [] t h l = (room, refl)
letters_run g zero (b ∷ w) t h l = absurd (omega arith)
letters_run g (suc n) (b ∷ w) t h l =
    let rest = letters_run g n w t h.1 (omega arith) in
    (rest.0, ap (λ o. run o (w ++ t)) (cond-true _ _ _ (inside 97 122 b h.0.0 h.0.1)) ∙ rest.1)

digits_run : (g : Bool) (room : ℕ) (w t : List ℕ) → AllByRecursion Digit w → length w ≤ room → (left : ℕ) × (run (Some (Digits g room)) (w ++ t) ≡ run (Some (Digits g left)) t)
digits_run g room [] t h l = (room, refl)
digits_run g zero (b ∷ w) t h l = absurd (omega arith)
digits_run g (suc n) (b ∷ w) t h l =
    let rest = digits_run g n w t h.1 (omega arith) in
    (rest.0, ap (λ o. run o (w ++ t)) (cond-true _ _ _ (inside 48 57 b h.0.0 h.0.1)) ∙ rest.1)

-- at s an item is over, so that a space or a closing bracket may follow
pub record Over (g : Bool) (s : State) : Type 0 where
  space : next s 32 ≡ ended g 32
  close : next s 41 ≡ ended g 41

over_letters : (g : Bool) (n : ℕ) → Over g (Letters g n)
over_letters g zero = record { space = refl; close = refl }
over_letters g (suc n) = record { space = refl; close = refl }

over_digits : (g : Bool) (n : ℕ) → Over g (Digits g n)
over_digits g zero = record { space = refl; close = refl }
over_digits g (suc n) = record { space = refl; close = refl }

-- where a word or a number may begin
abbrev start : Bool → State
start true = Member
start false = Item

start_letter : (g : Bool) (b : ℕ) → Letter b → next (start g) b ≡ Some (Letters g 8)
start_letter true b h = cond-true _ _ _ (inside 97 122 b h.0 h.1)
start_letter false b h = grind (arith, nat_tests)

start_lead : (g : Bool) (b : ℕ) → IsInRange 49 57 b → next (start g) b ≡ Some (Digits g 8)
start_lead true b h = grind (arith, nat_tests)
start_lead false b h = grind (arith, nat_tests)

start_minus : (g : Bool) → next (start g) 45 ≡ Some (Minus g)
start_minus true = refl
start_minus false = refl

start_zero : (g : Bool) → next (start g) 48 ≡ Some (Digits g 0)
start_zero true = refl
start_zero false = refl

-- t is what is left when s, at which an item is over, is reached
pub record Reaches (g : Bool) (o : Option State) (bs t : List ℕ) : Type 0 where
  end : State
  over : Over g end
  same : run o bs ≡ run (Some end) t

pub own : IsNumeralModel (λ ds. AllByRecursion Digit ds) (value 10)
own = numerals_by_value (λ ds. AllByRecursion Digit ds) (search rules)

-- a numeral that is not 0
pub record Lead (ds : List ℕ) : Type 0 where
  first : ℕ
  more : List ℕ
  is : ds ≡ first ∷ more
  nonzero : IsInRange 49 57 first
  digits : AllByRecursion Digit more
  short : length more ≤ 8

led : (ds : List ℕ) → AllByRecursion Digit ds → 48 < get_or ds 0 0 → length ds ≤ 9 → Lead ds
led [] d f s = absurd (omega arith)
led (b ∷ bs) d f s = record { first = b; more = bs; is = refl; nonzero = (omega arith, d.0.1); digits = d.1; short = omega arith }

lead_decimal : (n : ℕ) → 0 < n → n < 10 ^ 9 → Lead (decimal n)
lead_decimal n p h = led (decimal n) (digits_decimal own n (omega arith)) (first_decimal n p (omega arith)) (length-decimal-le 9 n (omega arith) h (omega arith))

module _ (g : Bool) (t : List ℕ) where
  lead_run : (o : Option State) (ds : List ℕ) → Lead ds → ((b : ℕ) → IsInRange 49 57 b → onto o b ≡ Some (Digits g 8)) → Reaches g o (ds ++ t) t
  lead_run o ds l to =
      let rest = digits_run g 8 l.more t l.digits l.short in
      record {
        end = Digits g rest.0;
        over = over_digits g rest.0;
        same = ap (λ xs. run o (xs ++ t)) l.is ∙ ap (λ p. run p (l.more ++ t)) (to l.first l.nonzero) ∙ rest.1;
      }

  word_run : (o : Option State) (w : List ℕ) → IsWord w → ((b : ℕ) → Letter b → onto o b ≡ Some (Letters g 8)) → Reaches g o (w ++ t) t
  word_run o [] h to = absurd (omega (arith, h.some))
  word_run o (b ∷ w) h to =
      let rest = letters_run g 8 w t h.letters.1 (omega (arith, h.short)) in
      record {
        end = Letters g rest.0;
        over = over_letters g rest.0;
        same = ap (λ p. run p (w ++ t)) (to b h.letters.0) ∙ rest.1;
      }

  -- a step before what is reached
  before : (s : State) (o : Option State) (b : ℕ) (bs : List ℕ) → next s b ≡ o → Reaches g o bs t → Reaches g (Some s) (b ∷ bs) t
  before s o b bs e r = record { end = r.end; over = r.over; same = ap (λ p. run p bs) e ∙ r.same }

  number_run : (z : ℤ) → nat_abs z < 10 ^ 9 → Reaches g (Some (start g)) (signed_decimal z ++ t) t
  number_run (pos zero) h =
      subst (λ ds. Reaches g (Some (start g)) (ds ++ t) t) (sym (decimal_digit 0 (omega arith)))
      (before (start g) (Some (Digits g 0)) 48 t (start_zero g) (record { end = Digits g 0; over = over_digits g 0; same = refl }))
  number_run (pos (suc n)) h = lead_run (Some (start g)) (decimal (suc n)) (lead_decimal (suc n) (omega arith) h) (start_lead g)
  number_run (negsuc n) h =
      before (start g) (Some (Minus g)) 45 (decimal (suc n) ++ t) (start_minus g)
      (lead_run (Some (Minus g)) (decimal (suc n)) (lead_decimal (suc n) (omega arith) h) (λ b i. cond-true _ _ _ (inside 49 57 b i.0 i.1)))

  atom_run : (a : Atom) → IsAtom a → Reaches g (Some (start g)) (atom_text a ++ t) t
  atom_run (word w) h = word_run (Some (start g)) w h (start_letter g)
  atom_run (number z) h = number_run z h

atoms_run : (atoms : List Atom) (t : List ℕ) (s : State) → Over true s → AllByRecursion IsAtom atoms → run (Some s) (spaced_atoms atoms ++ 41 ∷ t) ≡ run (Some (Digits false 0)) t
atoms_run [] t s o h = ap (λ p. run p t) o.close
atoms_run (a ∷ atoms) t s o h =
    let rest = spaced_atoms atoms ++ 41 ∷ t in
    let one = atom_run true rest a h.0 in
    ap (λ xs. run (Some s) (32 ∷ xs)) (append_assoc (atom_text a) (spaced_atoms atoms) (41 ∷ t)) ∙ ap (λ p. run p (atom_text a ++ rest)) o.space ∙ one.same ∙ atoms_run atoms t one.end one.over h.1

item_run : (t : List ℕ) (i : forms.Item) → IsItem i → Reaches false (Some Item) (item_text i ++ t) t
item_run t (single a) h = atom_run false t a h
item_run t (group a more) h =
    let rest = spaced_atoms more ++ 41 ∷ t in
    let one = atom_run true rest a h.0 in
    record {
      end = Digits false 0;
      over = over_digits false 0;
      same = ap (λ xs. run (Some Member) xs) (append_assoc (atom_text a) (spaced_atoms more ++ 41 ∷ []) t ∙ ap (λ xs. atom_text a ++ xs) (append_assoc (spaced_atoms more) (41 ∷ []) t)) ∙ one.same ∙ atoms_run more t one.end one.over h.1;
    }

items_run : (items : List forms.Item) (s : State) → Over false s → AllByRecursion IsItem items → run (Some s) (spaced_items items ++ 41 ∷ []) ≡ Some Done
items_run [] s o h = o.close
items_run (i ∷ items) s o h =
    let rest = spaced_items items ++ 41 ∷ [] in
    let one = item_run rest i h.0 in
    ap (λ xs. run (Some s) (32 ∷ xs)) (append_assoc (item_text i) (spaced_items items) (41 ∷ [])) ∙ ap (λ p. run p (item_text i ++ rest)) o.space ∙ one.same ∙ items_run items one.end one.over h.1

pub complete : (bs : List ℕ) → Form bs → run (Some Start) bs ≡ Some Done
complete bs f =
    let head = f.0 in
    let items = f.1.0 in
    let s = f.1.1 in
    let one = word_run false (spaced_items items ++ 41 ∷ []) (Some Name) head s.name (λ b h. cond-true _ _ _ (inside 97 122 b h.0 h.1)) in
    ap (run (Some Start)) s.whole ∙ one.same ∙ items_run items one.end one.over s.parts

-- Nothing else is accepted: what is left at a state is the rest of a form.

pub record TailTop (bs : List ℕ) : Type 0 where
  items : List forms.Item
  parts : AllByRecursion IsItem items
  whole : bs ≡ spaced_items items ++ 41 ∷ []

pub record TailIn (bs : List ℕ) : Type 0 where
  atoms : List Atom
  after : List ℕ
  parts : AllByRecursion IsAtom atoms
  tail : TailTop after
  whole : bs ≡ spaced_atoms atoms ++ 41 ∷ after

abbrev Tail : Bool → List ℕ → Type 0
Tail true bs = TailIn bs
Tail false bs = TailTop bs

pub record Splits (P : List ℕ → Type 0) (g : Bool) (bs : List ℕ) : Type 0 where
  front : List ℕ
  back : List ℕ
  good : P front
  tail : Tail g back
  whole : bs ≡ front ++ back

pub record Spelt (A : Type 0) (P : A → Type 0) (text : A → List ℕ) (bs : List ℕ) : Type 0 where
  value : A
  good : P value
  is : bs ≡ text value

pub record Run (P : ℕ → Type 0) (n : ℕ) (bs : List ℕ) : Type 0 where
  all : AllByRecursion P bs
  short : length bs ≤ n

abbrev Rest : State → List ℕ → Type 0
Rest Start bs = Form bs
Rest Name bs = Splits IsWord false bs
Rest Item bs = Splits (Spelt forms.Item IsItem item_text) false bs
Rest Member bs = Splits (Spelt Atom IsAtom atom_text) true bs
Rest (Minus g) bs = Splits Lead g bs
Rest (Letters g n) bs = Splits (Run Letter n) g bs
Rest (Digits g n) bs = Splits (Run Digit n) g bs
Rest Done bs = bs ≡ []

none_some : {A X : Type 0} {x : A} → ◌≡◌ {A = Option A} None (Some x) → X
none_some e = let z : ◌≡◌ {A = ℕ} 0 1 = cc in absurd (omega arith)

some_same : {A : Type 0} {x y : A} → Some x ≡ Some y → x ≡ y
some_same e = cc

-- which of two ways led to s
by : {X : Type 0} (t : Bool) (x y : Option State) (s : State) → cond t x y ≡ Some s → (t ≡ true → x ≡ Some s → X) → (t ≡ false → y ≡ Some s → X) → X
by true x y s e yes' no' = yes' refl e
by false x y s e yes' no' = no' refl e

-- a numeral that is not 0 is the decimal text of a number
pub record Names (ds : List ℕ) (n : ℕ) : Type 0 where
  some : 0 < n
  short : n < 10 ^ 9
  is : ds ≡ decimal n

lead_value : (ds : List ℕ) → Lead ds → Names ds (value 10 ds)
lead_value ds l =
    let head : get_or ds 0 0 ≡ l.first = ap (λ xs. get_or xs 0 0) l.is in
    let long : length ds ≡ suc (length l.more) = ap length l.is in
    let ok : AllByRecursion Digit ds = subst (AllByRecursion Digit) (sym l.is) ((omega (arith, l.nonzero.0), l.nonzero.1), l.digits) in
    let low : value 10 ds < 10 ^ 9 = digits_value_short own ds 9 ok (omega (arith, l.short)) in
    let text : decimal (value 10 ds) ≡ ds = decimal-digits_value own ds ok (omega arith) (λ e. absurd (omega (arith, l.nonzero.0))) (omega arith) in
    record {
      some = ⊎_elim (λ h. h) (λ h.
          let zeroed : value 10 ds ≡ 0 = omega arith in
          let first : 48 ≡ l.first = ap (λ xs. get_or xs 0 0) (sym (decimal_digit 0 (omega arith)) ∙ ap decimal (sym zeroed) ∙ text ∙ l.is) in
          absurd (omega (arith, l.nonzero.0))) (cases_lt 0 (value 10 ds));
      short = low;
      is = sym text;
    }

negated : (n : ℕ) (ds : List ℕ) → Names ds n → Spelt Atom IsAtom atom_text (45 ∷ ds)
negated zero ds h = absurd (omega (arith, h.some))
negated (suc n) ds h = record { value = number (negsuc n); good = h.short; is = ap (λ xs. 45 ∷ xs) h.is }

-- the front of a split, read in another way
read_as : {P Q : List ℕ → Type 0} (g : Bool) (bs : List ℕ) → ((xs : List ℕ) → P xs → Q xs) → Splits P g bs → Splits Q g bs
read_as g bs f q = record { front = q.front; back = q.back; good = f q.front q.good; tail = q.tail; whole = q.whole }

-- with no room left, the item is over
nothing : {P : ℕ → Type 0} (g : Bool) (bs : List ℕ) → Splits (Run P 0) g bs → Tail g bs
nothing g bs q = subst (Tail g) (sym (q.whole ∙ ap (λ xs. xs ++ q.back) (nil_from_length q.front (omega (arith, q.good.short))))) q.tail

module _ (b : ℕ) (bs : List ℕ) (s : State) (r : Rest s bs) where
  at : (u : State) → Some u ≡ Some s → Rest u bs
  at u e = subst (λ v. Rest v bs) (sym (some_same e)) r

  ended_back : (g : Bool) → ended g b ≡ Some s → Tail g (b ∷ bs)
  ended_back true e =
      by (eqb b 32) _ _ s e
      (λ t f.
      let q = at Member f in
      let a = q.good in
      record {
        atoms = a.value ∷ q.tail.atoms;
        after = q.tail.after;
        parts = (a.good, q.tail.parts);
        tail = q.tail.tail;
        whole = ap (λ c. c ∷ bs) (eqb-true b 32 t) ∙ ap (λ xs. 32 ∷ xs) (q.whole ∙ (λ i. a.is i ++ q.tail.whole i) ∙ sym (append_assoc (atom_text a.value) (spaced_atoms q.tail.atoms) (41 ∷ q.tail.after)));
      })
      (λ _ e2.
      by (eqb b 41) _ _ s e2
      (λ t f. record { atoms = []; after = bs; parts = tt; tail = nothing false bs (at (Digits false 0) f); whole = ap (λ c. c ∷ bs) (eqb-true b 41 t) })
      (λ _ f. none_some f))
  ended_back false e =
      by (eqb b 32) _ _ s e
      (λ t f.
      let q = at Item f in
      let a = q.good in
      record {
        items = a.value ∷ q.tail.items;
        parts = (a.good, q.tail.parts);
        whole = ap (λ c. c ∷ bs) (eqb-true b 32 t) ∙ ap (λ xs. 32 ∷ xs) (q.whole ∙ (λ i. a.is i ++ q.tail.whole i) ∙ sym (append_assoc (item_text a.value) (spaced_items q.tail.items) (41 ∷ [])));
      })
      (λ _ e2.
      by (eqb b 41) _ _ s e2
      (λ t f. record { items = []; parts = tt; whole = ap (λ c. c ∷ bs) (eqb-true b 41 t) ∙ ap (λ xs. 41 ∷ xs) (at Done f) })
      (λ _ f. none_some f))

  -- one more byte before a run
  longer : (P : ℕ → Type 0) (g : Bool) (n : ℕ) → P b → Splits (Run P n) g bs → Splits (Run P (suc n)) g (b ∷ bs)
  longer P g n h q = record {
    front = b ∷ q.front;
    back = q.back;
    good = record { all = (h, q.good.all); short = omega (arith, q.good.short) };
    tail = q.tail;
    whole = ap (λ xs. b ∷ xs) q.whole;
  }

  -- no more byte before a run
  over_back : (P : ℕ → Type 0) (g : Bool) (n : ℕ) → ended g b ≡ Some s → Splits (Run P n) g (b ∷ bs)
  over_back P g n e = record { front = []; back = b ∷ bs; good = record { all = tt; short = omega arith }; tail = ended_back g e; whole = refl }

  lead_back : (g : Bool) → leading g b ≡ Some s → Splits Lead g (b ∷ bs)
  lead_back g e =
      by (within 49 57 b) _ _ s e
      (λ t f.
      let q = at (Digits g 8) f in
      record {
        front = b ∷ q.front;
        back = q.back;
        good = record { first = b; more = q.front; is = refl; nonzero = bounds 49 57 b t; digits = q.good.all; short = q.good.short };
        tail = q.tail;
        whole = ap (λ xs. b ∷ xs) q.whole;
      })
      (λ _ f. none_some f)

  word_back : (g : Bool) → Letter b → Some (Letters g 8) ≡ Some s → Splits IsWord g (b ∷ bs)
  word_back g h f =
      let q = at (Letters g 8) f in
      record {
        front = b ∷ q.front;
        back = q.back;
        good = record { some = omega arith; short = omega (arith, q.good.short); letters = (h, q.good.all) };
        tail = q.tail;
        whole = ap (λ xs. b ∷ xs) q.whole;
      }

  opening_back : (g : Bool) → opening g b ≡ Some s → Splits (Spelt Atom IsAtom atom_text) g (b ∷ bs)
  opening_back g e =
      by (within 97 122 b) _ _ s e
      (λ t f. read_as g (b ∷ bs) (λ xs h. record { value = word xs; good = h; is = refl }) (word_back g (bounds 97 122 b t) f))
      (λ _ e2.
      by (eqb b 45) _ _ s e2
      (λ t f.
      let q = at (Minus g) f in
      record {
        front = 45 ∷ q.front;
        back = q.back;
        good = negated _ q.front (lead_value q.front q.good);
        tail = q.tail;
        whole = ap (λ c. c ∷ bs) (eqb-true b 45 t) ∙ ap (λ xs. 45 ∷ xs) q.whole;
      })
      (λ _ e3.
      by (eqb b 48) _ _ s e3
      (λ t f. record {
        front = 48 ∷ [];
        back = bs;
        good = record { value = number (pos 0); good = omega arith; is = sym (decimal_digit 0 (omega arith)) };
        tail = nothing g bs (at (Digits g 0) f);
        whole = ap (λ c. c ∷ bs) (eqb-true b 48 t);
      })
      (λ _ e4. read_as g (b ∷ bs) (λ xs h. let n = lead_value xs h in record { value = number (pos (value 10 xs)); good = n.short; is = n.is }) (lead_back g e4))))

  item_back : next Item b ≡ Some s → Splits (Spelt forms.Item IsItem item_text) false (b ∷ bs)
  item_back e =
      by (eqb b 40) _ _ s e
      (λ t f.
      let q = at Member f in
      let a = q.good in
      let k = q.tail in
      record {
        front = item_text (group a.value k.atoms);
        back = k.after;
        good = record { value = group a.value k.atoms; good = (a.good, k.parts); is = refl };
        tail = k.tail;
        whole = ap (λ c. c ∷ bs) (eqb-true b 40 t) ∙ ap (λ xs. 40 ∷ xs) (q.whole ∙ (λ i. a.is i ++ k.whole i) ∙ sym (append_assoc (atom_text a.value) (spaced_atoms k.atoms ++ 41 ∷ []) k.after ∙ ap (λ xs. atom_text a.value ++ xs) (append_assoc (spaced_atoms k.atoms) (41 ∷ []) k.after)));
      })
      (λ _ e2. read_as false (b ∷ bs) (λ xs h. record { value = single h.value; good = h.good; is = h.is }) (opening_back false e2))

  back : (u : State) → next u b ≡ Some s → Rest u (b ∷ bs)
  back Start e =
      by (eqb b 40) _ _ s e
      (λ t f.
      let q = at Name f in (
        q.front,
        (
          q.tail.items,
          record {
            name = q.good;
            parts = q.tail.parts;
            whole = ap (λ c. c ∷ bs) (eqb-true b 40 t) ∙ ap (λ xs. 40 ∷ xs) (q.whole ∙ ap (λ xs. q.front ++ xs) q.tail.whole);
          },
        ),
      ))
      (λ _ f. none_some f)
  back Name e = by (within 97 122 b) _ _ s e (λ t f. word_back false (bounds 97 122 b t) f) (λ _ f. none_some f)
  back Item e = item_back e
  back Member e = opening_back true e
  back (Minus g) e = lead_back g e
  back (Letters g zero) e = over_back Letter g 0 e
  back (Letters g (suc n)) e = by (within 97 122 b) _ _ s e (λ t f. longer Letter g n (bounds 97 122 b t) (at (Letters g n) f)) (λ _ f. over_back Letter g (suc n) f)
  back (Digits g zero) e = over_back Digit g 0 e
  back (Digits g (suc n)) e = by (within 48 57 b) _ _ s e (λ t f. longer Digit g n (bounds 48 57 b t) (at (Digits g n) f)) (λ _ f. over_back Digit g (suc n) f)
  back Done e = none_some e

live : (bs : List ℕ) (b : ℕ) (s : State) (o : Option State) → ((u : State) → run (Some u) bs ≡ Some Done → Rest u bs) → next s b ≡ o → run o bs ≡ Some Done → Rest s (b ∷ bs)
live bs b s None rest is e = none_some (sym (run_none bs) ∙ e)
live bs b s (Some u) rest is e = back b bs u (rest u e) s is

-- what is left at s, if it is accepted
accept : (bs : List ℕ) (s : State) → run (Some s) bs ≡ Some Done → Rest s bs
accept [] s e = subst (λ v. Rest v []) (sym (some_same e)) refl
accept (b ∷ bs) s e = live bs b s (next s b) (accept bs) refl e

pub sound : (bs : List ℕ) → run (Some Start) bs ≡ Some Done → Form bs
sound bs e = accept bs Start e

-- Each state is on the way to a form.

closing : (s : State) → (t : List ℕ) × (run (Some s) t ≡ Some Done)
closing Start = (40 ∷ 97 ∷ 41 ∷ [], refl)
closing Name = (97 ∷ 41 ∷ [], refl)
closing Item = (97 ∷ 41 ∷ [], refl)
closing Member = (97 ∷ 41 ∷ 41 ∷ [], refl)
closing (Minus true) = (49 ∷ 41 ∷ 41 ∷ [], refl)
closing (Minus false) = (49 ∷ 41 ∷ [], refl)
closing (Letters true zero) = (41 ∷ 41 ∷ [], refl)
closing (Letters true (suc n)) = (41 ∷ 41 ∷ [], refl)
closing (Letters false zero) = (41 ∷ [], refl)
closing (Letters false (suc n)) = (41 ∷ [], refl)
closing (Digits true zero) = (41 ∷ 41 ∷ [], refl)
closing (Digits true (suc n)) = (41 ∷ 41 ∷ [], refl)
closing (Digits false zero) = (41 ∷ [], refl)
closing (Digits false (suc n)) = (41 ∷ [], refl)
closing Done = ([], refl)

pub begins : (p : List ℕ) (s : State) → run (Some Start) p ≡ Some s → Begins p
begins p s e = let c = closing s in (c.0, sound (p ++ c.0) (run_append (Some Start) p c.0 ∙ ap (λ o. run o c.0) e ∙ c.1))

pub dead : (p : List ℕ) → run (Some Start) p ≡ None → Begins p → ⊥
dead p e f = none_some (sym (run_none f.0) ∙ sym (ap (λ o. run o f.0) e) ∙ sym (run_append (Some Start) p f.0) ∙ complete (p ++ f.0) f.1)

-- one more byte of the line
pub run_more : (line : List ℕ) (i : ℕ) (s : State) (o : Option State) → i < length line → run (Some Start) (take i line) ≡ Some s → next s (get_or line i 0) ≡ o → run (Some Start) (take (i + 1) line) ≡ o
run_more line i s o h e is =
    ap (run (Some Start)) (take_more line i 0 h) ∙ run_append (Some Start) (take i line) (get_or line i 0 ∷ []) ∙ ap (λ p. onto p (get_or line i 0)) e ∙ is

pub run_all : (line : List ℕ) (i : ℕ) (s : State) → length line ≤ i → run (Some Start) (take i line) ≡ Some s → run (Some Start) line ≡ Some s
run_all line i s h e = ap (run (Some Start)) (sym (take_all i line h)) ∙ e

pub fault_here : (line : List ℕ) (i : ℕ) (s : State) → i < length line → run (Some Start) (take i line) ≡ Some s → next s (get_or line i 0) ≡ None → FaultAt line (i + 1)
fault_here line i s h e stop =
    let gone : run (Some Start) (take (i + 1) line) ≡ None = run_more line i s None h e stop in
    let back : i + 1 - 1 ≡ i = omega arith in
    record {
      low = omega arith;
      high = omega arith;
      before = subst (λ k. Begins (take k line)) (sym back) (begins (take i line) s e);
      here = λ _. dead (take (i + 1) line) gone;
      broken = λ f. dead (take (i + 1) line) gone (drop (i + 1) line, subst Form (sym (take-append-drop (i + 1) line)) f);
    }

pub fault_short : (line : List ℕ) (s : State) → run (Some Start) line ≡ Some s → (s ≡ Done → ⊥) → FaultAt line (length line + 1)
fault_short line s e more =
    let back : take (length line + 1 - 1) line ≡ line = take_all _ line (omega arith) in
    record {
      low = omega arith;
      high = omega arith;
      before = subst Begins (sym back) (begins line s e);
      here = λ h. absurd (omega arith);
      broken = λ f. more (some_same (sym e ∙ complete line f));
    }
