-- Which command some parts say.
use Rattle.std.proofs.Common.{◌≡◌, ℕ, List, ◌∷◌, ◌++◌, ℤ, Some, None, codes, Option, sym, ◌∙◌, subst, arith}
use Rattle.commands.specs.Commands.{Says, OrderSays, limit_parts}
use Rattle.commands.specs.Legs.{legs_parts}
use Rattle.commands.specs.Parts.{Part, word, number}
use Rattle.commands.specs.Words.{head_name, pricing_name, channel_name}
use Rattle.commands.specs.declared.command.Command.{Command}
use Rattle.commands.specs.declared.command.Command.TheVariants as commands
use Rattle.orders.specs.declared.records.OrderTerms.{OrderTerms}
use Rattle.commands.specs.declared.words.Head.{Head}
use Rattle.commands.specs.declared.words.Head.TheVariants as heads
use Rattle.commands.specs.declared.words.Pricing.{Pricing}
use Rattle.commands.specs.declared.words.Pricing.TheVariants as pricings

pub no_limit : (ps : List Part) → ((k : Pricing) (more : List Part) → ps ≡ word (pricing_name k) ∷ more → ⊥) → (x : Option ℤ) (more : List Part) → ps ≡ limit_parts x ++ more → ⊥
no_limit ps none None more e = none pricings.Market more e
no_limit ps none (Some z) more e = none pricings.Limit (number z ∷ more) e

-- what follows a limit
pub after_limit : (x y : Option ℤ) (a b : List Part) → limit_parts x ++ a ≡ limit_parts y ++ b → a ≡ b
after_limit None None a b e = cc
after_limit None (Some z) a b e = let q : ◌≡◌ {A = ℕ} 109 108 = cc in absurd (omega arith)
after_limit (Some z) None a b e = let q : ◌≡◌ {A = ℕ} 108 109 = cc in absurd (omega arith)
after_limit (Some z) (Some y) a b e = cc

-- what follows an order's quantity
pub after_quantity : (ps a b d : List Part) (side : List ℕ) (limit : Option ℤ) (q : ℤ) → ps ≡ word side ∷ a → a ≡ limit_parts limit ++ b → b ≡ number q ∷ d → (x : OrderTerms) (s : OrderSays x ps) → d ≡ word (channel_name x.channel) ∷ legs_parts s.all
after_quantity ps a b d side limit q first second third x s =
    let whole = s.parts in
    let end = number x.quantity ∷ word (channel_name x.channel) ∷ legs_parts s.all in
    let tail : a ≡ limit_parts x.limit ++ end = cc in
    let after = after_limit limit x.limit b end (sym second ∙ tail) in
    cc

-- parts that begin with no head say no command
pub headless : (ps : List Part) → ((h : Head) (more : List Part) → ps ≡ word (head_name h) ∷ more → ⊥) → (c : Command) → Says c ps → ⊥
headless ps none (commands.Series x) e = none heads.Series _ e
headless ps none (commands.Notice x) e = none heads.Notice _ e
headless ps none (commands.Quote x) e = none heads.Quote _ e
headless ps none (commands.Level x) e = none heads.Level _ e
headless ps none (commands.Enter x) s = none heads.Enter _ s.1.0
headless ps none (commands.Phase b) e = none heads.Phase _ e
headless ps none (commands.Cancel n) e = none heads.Cancel _ e
headless ps none (commands.Work n) e = none heads.Work _ e
headless ps none commands.Sweep e = none heads.Sweep _ e
headless ps none (commands.Net l) s = none heads.Net _ s.1.0

-- parts that begin with `enter` say no other command
pub no_enter : (ps more : List Part) → ps ≡ word (codes "enter") ∷ more → ((x : OrderTerms) → OrderSays x more → ⊥) → (c : Command) → Says c ps → ⊥
no_enter ps more p none (commands.Series x) e = let q : ◌≡◌ {A = ℕ} 101 115 = cc in omega arith
no_enter ps more p none (commands.Notice x) e = let q : ◌≡◌ {A = ℕ} 101 110 = cc in omega arith
no_enter ps more p none (commands.Quote x) e = let q : ◌≡◌ {A = ℕ} 101 113 = cc in omega arith
no_enter ps more p none (commands.Level x) e = let q : ◌≡◌ {A = ℕ} 101 108 = cc in omega arith
no_enter ps more p none (commands.Enter x) s = let o = s.1.0 in let same : s.0 ≡ more = cc in none x (subst (OrderSays x) same s.1.1)
no_enter ps more p none (commands.Phase b) e = let q : ◌≡◌ {A = ℕ} 101 112 = cc in omega arith
no_enter ps more p none (commands.Cancel n) e = let q : ◌≡◌ {A = ℕ} 101 99 = cc in omega arith
no_enter ps more p none (commands.Work n) e = let q : ◌≡◌ {A = ℕ} 101 119 = cc in omega arith
no_enter ps more p none commands.Sweep e = let q : ◌≡◌ {A = ℕ} 101 115 = cc in omega arith
no_enter ps more p none (commands.Net l) s = let o = s.1.0 in let q : ◌≡◌ {A = ℕ} 101 110 = cc in omega arith
