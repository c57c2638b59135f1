-- What an order fills: of a decision, and of a fill seen from outside.
use Rattle.std.proofs.Common.{◌≡◌, ℕ, Bool, true, false, not, ℤ, IfOk, Some, None, Ok, Err, Option, Result, refl, ap, ◌∙◌, subst, sym, arith}
use Rattle.std.proofs.lemmas.Bool.{and_parts, not-true}
use Rattle.strategy.specs.declared.price.Buffers.{Buffers}
use Rattle.strategy.specs.Prices.{prevented_of}
use Rattle.market.specs.Levels.{Levels}
use Rattle.market.specs.Net.{net_side}
use Rattle.market.specs.Takes.{distinct}
use Rattle.orders.specs.declared.fault.GateFault.{GateFault}
use Rattle.orders.specs.declared.fault.GateFault.TheVariants.{NoMarket, Limit, Prevented}
use Rattle.orders.specs.declared.turned.TurnedOrder.{TurnedOrder}
use Rattle.orders.specs.Checks.{check, check_at, map_ok}
use Rattle.orders.specs.SoundLegs.{ratios_in_range, sound}
use Rattle.orders.specs.TurnedTerms.{Terms, terms_of}
use Rattle.orders.proofs.Checked.{err_ok, same_ok, check_ok, at_ok}
use Rattle.fills.specs.Fills.{taken_side, lacking, allowed, leg_fill, past_limit}
use Rattle.fills.specs.Fillings.{Filling, filling_of, filling_at, priced, decided_at, decided, filling}
use Rattle.fills.specs.FillingLaws.{IsFilling, ReachesNet}
use Rattle.fills.specs.Quotes.{order_legs, fill_at, quoted}
use Rattle.fills.proofs.Units.{units_within, units_some, units_shown, can_take_lem}
use Rattle.fills.proofs.Legs.{listed_each}

-- What passed the checks

module _ {A : Type 0} where
  priced_ok : (p : Option ℤ) (next : ℤ → Result A GateFault) (f : A) → priced p next ≡ Ok f → (net : ℤ) × (p ≡ Some net) × (next net ≡ Ok f)
  priced_ok None next f e = absurd (err_ok (NoMarket 0) f e)
  priced_ok (Some net) next f e = (net, refl, e)

  module _ (b : Levels) (o : Terms) (buffers : Buffers) (fill : ℤ → A) where
    abbrev last : ℤ → Result A GateFault
    last net = check (not (prevented_of o.class o.width o.side net buffers)) Prevented (Ok (fill net))

    -- what is left to check at a net price that the order reaches
    pub decided_net : (net : ℤ) → ReachesNet b o net → decided b o buffers fill ≡ last net
    decided_net net h =
        ap (λ p. check_at p NoMarket (priced (net_side b o.legs (taken_side o.side)) (decided_at o buffers fill))) h.enough
        ∙ ap (λ p. priced p (decided_at o buffers fill)) h.price ∙ ap (λ t. check (not t) Limit (last net)) h.inside

    -- what fills does so at a net price that it reaches
    pub decided_ok : (f : A) → decided b o buffers fill ≡ Ok f → (net : ℤ) × ReachesNet b o net × (fill net ≡ f)
    decided_ok f e =
        let q = taken_side o.side in
        let m = at_ok (lacking b q o.legs) NoMarket (priced (net_side b o.legs q) (decided_at o buffers fill)) f e in
        let p = priced_ok (net_side b o.legs q) (decided_at o buffers fill) f m.1 in
        let net = p.0 in
        let l = check_ok (not (past_limit o.side net o.limit)) Limit (last net) f p.2 in
        let v = check_ok (not (prevented_of o.class o.width o.side net buffers)) Prevented (Ok (fill net)) f l.1 in
        (net, record { enough = m.0; price = p.1; inside = not-true (past_limit o.side net o.limit) l.0 }, same_ok (fill net) f v.1)

module _ (b : Levels) (o : Terms) (remaining : ℕ) (buffers : Buffers) where
  pub at_net : (net : ℤ) → ReachesNet b o net → filling b o remaining buffers ≡ check (not (prevented_of o.class o.width o.side net buffers)) Prevented (Ok (filling_at b o remaining net))
  at_net net h = decided_net b o buffers (filling_at b o remaining) net h

module _ (b : Levels) (o : Terms) (remaining : ℕ) (s : sound o.legs ≡ true) where
  pub filling_is : (net : ℤ) → ReachesNet b o net → IsFilling b o remaining (filling_at b o remaining net)
  filling_is net h =
      let q = taken_side o.side in
      let ratios = (and_parts (ratios_in_range o.legs) (distinct o.legs) s).0 in
      let units = allowed b q remaining o.legs in
      let shown = units_shown b q units remaining o.legs (omega arith) in
      record {
        within = units_within b q remaining o.legs;
        some = λ k. units_some b q 1 remaining o.legs k ratios h.enough;
        shown = shown;
        takeable = can_take_lem b q units o.legs s shown;
        price = h.price;
        inside = h.inside;
        legs = refl;
      }

  -- a fill of any form that shows as one seen from outside
  pub shown_filled : {A : Type 0} (buffers : Buffers) (fill : ℤ → A) (show : A → Filling) → ((net : ℤ) → show (fill net) ≡ filling_at b o remaining net)
      → (r : Result A GateFault) → r ≡ decided b o buffers fill → IfOk r (λ f. IsFilling b o remaining (show f))
  shown_filled buffers fill show same (Ok f) e =
      let at = decided_ok b o buffers fill f (sym e) in
      subst (IsFilling b o remaining) (sym (same at.0) ∙ ap show at.2) (filling_is at.0 at.1)
  shown_filled buffers fill show same (Err x) e = tt

pub filled : (b : Levels) (o : Terms) (remaining : ℕ) (buffers : Buffers) → sound o.legs ≡ true → (r : Result Filling GateFault) → r ≡ filling b o remaining buffers → IfOk r (IsFilling b o remaining)
filled b o remaining buffers s r e = shown_filled b o remaining s buffers (filling_at b o remaining) (λ f. f) (λ net. refl) r e

-- The quotation of an order is what is said of its terms.

module _ {A B : Type 0} (show : A → B) (o : Terms) (buffers : Buffers) (fill : ℤ → A) where
  at_price : (net : ℤ) → map_ok show (decided_at o buffers fill net) ≡ decided_at o buffers (λ x. show (fill x)) net
  at_price net = by (past_limit o.side net o.limit) (prevented_of o.class o.width o.side net buffers)
    where
      by : (t u : Bool) → map_ok show (check (not t) Limit (check (not u) Prevented (Ok (fill net)))) ≡ check (not t) Limit (check (not u) Prevented (Ok (show (fill net))))
      by true u = refl
      by false true = refl
      by false false = refl

  in_turn : (p : Option ℕ) (q : Option ℤ) → map_ok show (check_at p NoMarket (priced q (decided_at o buffers fill))) ≡ check_at p NoMarket (priced q (decided_at o buffers (λ x. show (fill x))))
  in_turn (Some k) q = refl
  in_turn None None = refl
  in_turn None (Some net) = at_price net

pub same_fill : (b : Levels) (o : TurnedOrder) (remaining : ℕ) (net : ℤ) → filling_of (fill_at b o remaining net) ≡ filling_at b (terms_of o) remaining net
same_fill b o remaining net = ap (λ ls. record { units = allowed b (taken_side o.side) remaining (order_legs o); net = net; legs = ls }) (listed_each (leg_fill b (taken_side o.side)) o.legs.legs)

pub filling_is_quoted : (b : Levels) (o : TurnedOrder) (remaining : ℕ) (buffers : Buffers) → map_ok filling_of (quoted b o remaining buffers) ≡ filling b (terms_of o) remaining buffers
filling_is_quoted b o remaining buffers =
    in_turn filling_of (terms_of o) buffers (fill_at b o remaining) (lacking b (taken_side o.side) (order_legs o)) (net_side b (order_legs o) (taken_side o.side))
    ∙ ap (decided b (terms_of o) buffers) (λ i net. same_fill b o remaining net i)
