-- The worked prices hold.
use Rattle.std.proofs.Common.{◌≡◌, ◌+◌, [], ◌∷◌, refl, inl, inr, arith, lit<}
use Rattle.std.proofs.lemmas.Int.{ints}
use Rattle.strategy.specs.declared.leg.Kind.TheVariants.{Call, Put}
use Rattle.strategy.specs.declared.leg.Leg.{Leg}
use Rattle.strategy.specs.Legs.{option, buy, sell}
use Rattle.strategy.specs.Reordering.{Reordered}
use Rattle.strategy.specs.Forms.{Classified}
use Rattle.strategy.specs.Prices.{minimum_of, maximum_of}
use Rattle.strategy.proofs.Reorder.{only_from, two_from}
use Rattle.market.specs.Levels.{Levels}
use Rattle.market.specs.Net.{net_market}
use Rattle.orders.specs.declared.outcome.Outcome.TheVariants.{Done}
use Rattle.days.specs.State.{State, in_force}
use Rattle.days.specs.History.{swept, Swept}
use Rattle.worked.specs.Rows.{Row, Priced, Stands, Holds, start, orders, gate_of, traded, options}
use Rattle.worked.specs.Worked.{box_row, ladder_row, vertical_row, sell_row, rounded_row, bought_row, butterfly_row, absent_row, calendar_row, buffers_row, WorkedPrices}
use Rattle.worked.proofs.Classes.{vertical_form, butterfly_form, box_form, sell_buy, other}
use Rattle.worked.proofs.Sweeps.{entered_fresh, gate_then, market_then, Writes, sweeps}

stands : {r : Row} {p : Priced} → Classified (options r p) p.strategy → net_market r.market (traded p) ≡ p.net → minimum_of p.strategy.class (options r p) (in_force r.notices) ≡ p.minimum → maximum_of p.strategy.class p.strategy.width (in_force r.notices) ≡ p.maximum → Stands r p
stands c n l h = record { classified = c; net = n; minimum = l; maximum = h }

writes : (r : Row) → Writes (gate_of r) r.market r.tape → (t : State) × (left : Levels) × Swept (gate_of r) r.market (swept r.tape Done) r.tape t left
writes r w = (
  gate_then (gate_of r) r.tape,
  market_then (gate_of r) r.market r.tape,
  sweeps (gate_of r) r.market r.tape (entered_fresh (start r) (orders r.priced) (λ k lt. refl)) w,
)

-- two legs entered the other way round
swapped : (a b : Leg) → Reordered (a ∷ b ∷ []) (b ∷ a ∷ [])
swapped a b = two_from a (b ∷ []) b a (inr (refl, only_from b b refl))

box : Holds box_row
box = record { prices = (stands (inl (box_form 1 696000 26 1000 (lit< tt))) refl refl refl, tt); enters = refl; works = (refl, tt); sweeps = writes box_row refl }

-- two calls for one: worth more than any width far up, and flipped less than 0
ladder : Holds ladder_row
ladder = record {
  prices = (
    stands
        (other (buy 2 (option 1 Call 2000 26) ∷ sell 1 (option 1 Call 2500 26) ∷ [])
        (record { mixed = λ a. sell_buy a.1.0; unbounded = λ w v. omega (arith, ints, (v.within (2500 + w)).most) })
        (record { mixed = λ a. sell_buy a.0; unbounded = λ w v. omega (arith, ints, (v.within 2500).least) }))
        refl refl refl,
    (stands (inl (vertical_form 1 2000 26 500 (lit< tt) Call)) refl refl refl, tt),
  );
  enters = refl;
  works = (refl, (refl, tt));
  sweeps = writes ladder_row (refl, refl, refl, (refl, refl, refl, refl));
}

vertical : Holds vertical_row
vertical = record { prices = (stands (inl (vertical_form 1 2000 26 500 (lit< tt) Call)) refl refl refl, tt); enters = refl; works = (refl, tt); sweeps = writes vertical_row refl }

sold : Holds sell_row
sold = record {
  prices = (
    stands (inl (vertical_form 2 3000 26 100 (lit< tt) Call)) refl refl refl,
    (stands (inl (vertical_form 2 3000 26 100 (lit< tt) Call)) refl refl refl, tt),
  );
  enters = refl;
  works = (refl, (refl, (refl, (refl, tt))));
  sweeps = writes sell_row refl;
}

rounded : Holds rounded_row
rounded = record { prices = (stands (inl (vertical_form 1 1000 26 250 (lit< tt) Call)) refl refl refl, tt); enters = refl; works = (refl, tt); sweeps = writes rounded_row refl }

bought : Holds bought_row
bought = record {
  prices = (stands (inl (record { some = lit< tt; all = (refl, (refl, tt)); flat = refl })) refl refl refl, tt);
  enters = refl;
  works = (refl, (refl, tt));
  sweeps = writes bought_row refl;
}

-- with 111 dollars: worth less than 0 at 111, and flipped at 105
butterfly : Holds butterfly_row
butterfly = record {
  prices = (
    stands (inl (butterfly_form 2 10000 26 500 (lit< tt) Call)) refl refl refl,
    (
      stands
          (other (buy 1 (option 2 Call 10000 26) ∷ sell 2 (option 2 Call 10500 26) ∷ buy 1 (option 2 Call 11100 26) ∷ [])
          (record { mixed = λ a. sell_buy a.1.0; unbounded = λ w v. omega (arith, ints, (v.within 11100).least) })
          (record { mixed = λ a. sell_buy a.0; unbounded = λ w v. omega (arith, ints, (v.within 10500).least) }))
          refl refl refl,
      tt,
    ),
  );
  enters = refl;
  works = (refl, (refl, tt));
  sweeps = writes butterfly_row (refl, refl, refl, refl);
}

absent : Holds absent_row
absent = record { prices = (stands (inl (butterfly_form 2 10000 26 500 (lit< tt) Call)) refl refl refl, tt); enters = refl; works = (refl, tt); sweeps = writes absent_row refl }

calendar : Holds calendar_row
calendar = record {
  prices = (
    stands
        (inl (record {
          u = 1;
          k = Put;
          low = 2000;
          high = 2500;
          e = 26;
          wide = lit< tt;
          apart = refl;
          legs_are = swapped (sell 1 (option 1 Put 2000 26)) (buy 1 (option 1 Put 2500 26));
        }))
        refl refl refl,
    (
      stands
          (inl (record {
            u = 1;
            k = Call;
            strike = 2000;
            near = 26;
            later = 27;
            apart = lit< tt;
            flat = refl;
            legs_are = swapped (sell 1 (option 1 Call 2000 26)) (buy 1 (option 1 Call 2000 27));
          }))
          refl refl refl,
      tt,
    ),
  );
  enters = refl;
  works = (refl, (refl, (refl, tt)));
  sweeps = writes calendar_row (refl, refl, refl, refl);
}

buffers : Holds buffers_row
buffers = record {
  prices = (
    stands (inl (butterfly_form 1 2000 26 500 (lit< tt) Put)) refl refl refl,
    (stands (inl (box_form 1 2000 26 500 (lit< tt))) refl refl refl, tt),
  );
  enters = refl;
  works = (refl, (refl, tt));
  sweeps = writes buffers_row refl;
}

pub worked : WorkedPrices
worked = (box, (ladder, (vertical, (sold, (rounded, (bought, (butterfly, (absent, (calendar, (buffers, tt))))))))))
