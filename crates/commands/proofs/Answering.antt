-- What is answered to a line whose tokens were read, and that nothing else is.
use Rattle.std.proofs.Common.{◌≡◌, ℕ, Bool, true, false, List, map, Some, None, Option, MatchOption, Ok, Err, Result, ok_or, sym, refl, ap, ◌∙◌, subst, arith}
use Rattle.std.specs.Bool.{then_some}
use Rattle.std.proofs.lemmas.Bool.{both_ways}
use Rattle.lines.specs.Faults.{Read, Refuses}
use Rattle.lines.specs.Tokens.{Lexeme}
use Rattle.lines.specs.declared.fault.LineFault.{LineFault}
use Rattle.lines.specs.declared.fault.LineFault.TheVariants.{ShortArea, TooLong, Broken, Unknown}
use Rattle.lines.proofs.Unique.{only_fault}
use Rattle.commands.specs.Commands.{Says, Means}
use Rattle.commands.specs.Feeds.{takes}
use Rattle.commands.specs.Parts.{part}
use Rattle.commands.specs.Understood.{Understood, Strange, Declines, Answered}
use Rattle.commands.specs.declared.command.Command.{Command}
use Rattle.commands.specs.declared.command.Feed.{Feed}
use Rattle.commands.proofs.Decoding.{one_command}

module _ (feed : Feed) (line : List ℕ) (found : List Lexeme) (read : Read line found) where
  pub understood : (c : Command) → takes feed c ≡ true → Says c (map part found) → Understood feed line c
  understood c t h =
      record {
        short = read.short;
        form = read.form;
        taken = t;
        says = λ head items s. subst (Says c) (ap (map part) (read.says head items s)) h;
      }

  pub strange : ((c : Command) → takes feed c ≡ true → Says c (map part found) → ⊥) → Strange feed line
  strange none =
      record {
        short = read.short;
        form = read.form;
        silent = λ head items s c t h. none c t (subst (Says c) (sym (ap (map part) (read.says head items s))) h);
      }

  pub untaken : (c : Command) → takes feed c ≡ false → Says c (map part found) → Strange feed line
  untaken c u h = strange (λ d t k. both_ways (takes feed c) u (ap (takes feed) (sym (one_command c d (map part found) h k)) ∙ t))

  chosen : (c : Command) → Says c (map part found) → (b : Bool) → takes feed c ≡ b → Answered feed line (ok_or (then_some b c) Unknown)
  chosen c h true t = understood c t h
  chosen c h false t = untaken c t h

  -- the command that the parts say, where it is taken
  pub answered : (r o : Option Command) → Means (map part found) r → MatchOption r (o ≡ None) (λ c. o ≡ then_some (takes feed c) c) → Answered feed line (ok_or o Unknown)
  answered None o h e = rw e (strange (λ c t. h c))
  answered (Some c) o h e = rw e (chosen c h (takes feed c) refl)

pub declines : (feed : Feed) (line : List ℕ) (e : LineFault) → Refuses line e → Declines feed line e
declines feed line ShortArea h = h
declines feed line TooLong h = h
declines feed line (Broken c) h = h
declines feed line Unknown h = absurd h

module _ (feed : Feed) (line : List ℕ) where
  not_both : (c : Command) (e : LineFault) → Understood feed line c → Declines feed line e → ⊥
  not_both c ShortArea u d = d
  not_both c TooLong u d = omega (arith, u.short)
  not_both c (Broken column) u d = d.1.broken u.form
  not_both c Unknown u d = d.silent u.form.0 u.form.1.0 u.form.1.1 c u.taken (u.says u.form.0 u.form.1.0 u.form.1.1)

  one_fault : (e f : LineFault) → Declines feed line e → Declines feed line f → f ≡ e
  one_fault ShortArea f d k = absurd d
  one_fault TooLong ShortArea d k = absurd k
  one_fault TooLong TooLong d k = refl
  one_fault TooLong (Broken b) d k = absurd (omega (arith, k.0))
  one_fault TooLong Unknown d k = absurd (omega (arith, k.short))
  one_fault (Broken a) ShortArea d k = absurd k
  one_fault (Broken a) TooLong d k = absurd (omega (arith, d.0))
  one_fault (Broken a) (Broken b) d k = ap Broken ((only_fault line a d.1).only b k.1)
  one_fault (Broken a) Unknown d k = absurd (d.1.broken k.form)
  one_fault Unknown ShortArea d k = absurd k
  one_fault Unknown TooLong d k = absurd (omega (arith, d.short))
  one_fault Unknown (Broken b) d k = absurd (k.1.broken d.form)
  one_fault Unknown Unknown d k = refl

  pub one_answer : (r s : Result Command LineFault) → Answered feed line r → Answered feed line s → s ≡ r
  one_answer (Ok c) (Ok d) u v =
      let head = u.form.0 in
      let items = u.form.1.0 in
      let spells = u.form.1.1 in
      ap Ok (one_command c d _ (u.says head items spells) (v.says head items spells))
  one_answer (Ok c) (Err f) u k = absurd (not_both c f u k)
  one_answer (Err e) (Ok d) k v = absurd (not_both d e v k)
  one_answer (Err e) (Err f) d k = ap Err (one_fault e f d k)
