-- The worked prices, as rows of one table. The first eight are those of docs/worked-prices.md; the others pin what they leave open.
use Rattle.std.specs.Prelude.{List, [], ◌∷◌, pos, Some, None}
use Rattle.std.specs.List.{AllByRecursion}
use Rattle.strategy.specs.declared.leg.Kind.TheVariants.{Call, Put}
use Rattle.strategy.specs.declared.leg.Side.TheVariants.{Buy, Sell}
use Rattle.strategy.specs.declared.class.Class.TheVariants.{Bought, Vertical, Calendar, Butterfly, BoxSpread, Other}
use Rattle.strategy.specs.Legs.{option}
use Rattle.worked.specs.Words.{minus, leg, is, turned, notice, level, no_quote, quote, market_of, net, refused, order, fills, at, line}
use Rattle.worked.specs.Rows.{Row, enter, Holds}

-- 1. A box 10 dollars wide, without buffers: a buy at 1000 passes, at 1010 it is above the Maximum.
abbrev pub box_row : Row
box_row = record {
  series = option 1 Call 696000 26 ∷ option 1 Put 696000 26 ∷ option 1 Call 697000 26 ∷ option 1 Put 697000 26 ∷ [];
  notices = [];
  market = market_of (quote 3080 9 3405 9 ∷ quote 3350 9 3600 9 ∷ quote 2750 9 2900 9 ∷ quote 3640 9 3705 9 ∷ []);
  priced =
      record {
        legs = leg Buy 1 0 ∷ leg Sell 1 1 ∷ leg Sell 1 2 ∷ leg Buy 1 3 ∷ [];
        strategy = is BoxSpread 1000;
        net = net (Some (pos 220)) (Some (pos 1010));
        minimum = Some (pos 0);
        maximum = Some (pos 1000);
        entries = enter Buy (Some (pos 1000)) 1 (order 1) ∷ enter Buy (Some (pos 1010)) 1 (refused 27 0) ∷ [];
      }
      ∷ [];
  works = (1, refused 33 0) ∷ [];
  tape = [];
}

-- 2. A sweep on the ladder: the first order finds its ratio once the second has taken the first offer.
abbrev pub ladder_row : Row
ladder_row = record {
  series = option 1 Call 2000 26 ∷ option 1 Call 2500 26 ∷ [];
  notices = [];
  market = market_of (record { bids = []; offers = level 100 1 ∷ level 105 10 ∷ [] } ∷ record { bids = level 50 20 ∷ []; offers = [] } ∷ []);
  priced =
      record {
        legs = leg Buy 2 0 ∷ leg Sell 1 1 ∷ [];
        strategy = is Other 0;
        net = net None (Some (pos 150));
        minimum = None;
        maximum = None;
        entries = enter Buy (Some (pos 200)) 2 (order 1) ∷ [];
      }
      ∷ record {
        legs = leg Buy 1 0 ∷ leg Sell 1 1 ∷ [];
        strategy = is Vertical 500;
        net = net None (Some (pos 50));
        minimum = Some (pos 0);
        maximum = Some (pos 500);
        entries = enter Buy (Some (pos 60)) 1 (order 2) ∷ [];
      }
      ∷ [];
  works = (1, refused 32 1) ∷ (2, fills 1 (pos 50)) ∷ [];
  tape =
      line 2 Vertical Buy 1 (pos 50) 0 (at 0 (pos 1) 100 ∷ at 1 (minus 1) 50 ∷ [])
      ∷ line 1 Other Buy 2 (pos 160) 0 (at 0 (pos 2) 105 ∷ at 1 (minus 1) 50 ∷ [])
      ∷ [];
}

-- 3. A vertical of width 500, whose absolute buffer of 10 is less than 5 %: a limit of 510 passes, 511 is above the Maximum.
abbrev pub vertical_row : Row
vertical_row = record {
  series = option 1 Call 2000 26 ∷ option 1 Call 2500 26 ∷ [];
  notices = notice 10 10 500 0 0 0 0 0 0 ∷ [];
  market = market_of [];
  priced =
      record {
        legs = leg Buy 1 0 ∷ leg Sell 1 1 ∷ [];
        strategy = is Vertical 500;
        net = net None None;
        minimum = Some (minus 10);
        maximum = Some (pos 510);
        entries = enter Buy (Some (pos 510)) 1 (order 1) ∷ enter Buy (Some (pos 511)) 1 (refused 27 0) ∷ [];
      }
      ∷ [];
  works = (1, refused 32 1) ∷ [];
  tape = [];
}

-- 4. A sell of a vertical with a Minimum Value Buffer of 10: at -10 it passes, at -11 it is below the Minimum; at the market it would get -15
-- and is prevented. A buy with every leg flipped is the same, turned.
abbrev pub sell_row : Row
sell_row = record {
  series = option 2 Call 3000 26 ∷ option 2 Call 3100 26 ∷ [];
  notices = notice 10 0 0 0 0 0 0 0 0 ∷ [];
  market = market_of (quote 100 9 120 9 ∷ quote 95 9 115 9 ∷ []);
  priced =
      record {
        legs = leg Buy 1 0 ∷ leg Sell 1 1 ∷ [];
        strategy = is Vertical 100;
        net = net (Some (minus 15)) (Some (pos 25));
        minimum = Some (minus 10);
        maximum = Some (pos 100);
        entries = enter Sell (Some (minus 10)) 1 (order 1) ∷ enter Sell (Some (minus 11)) 1 (refused 26 0) ∷ enter Sell None 1 (order 2) ∷ [];
      }
      ∷ record {
        legs = leg Sell 1 0 ∷ leg Buy 1 1 ∷ [];
        strategy = turned Vertical 100;
        net = net (Some (minus 25)) (Some (pos 15));
        minimum = Some (minus 10);
        maximum = Some (pos 100);
        entries = enter Buy None 1 (order 3) ∷ enter Buy (Some (pos 10)) 1 (order 4) ∷ enter Buy (Some (pos 11)) 1 (refused 26 0) ∷ [];
      }
      ∷ [];
  works = (1, refused 33 0) ∷ (2, refused 34 0) ∷ (3, refused 34 0) ∷ (4, refused 33 0) ∷ [];
  tape = [];
}

-- 5. A percentage rounded down: of 8.325 cents of a width of 250 the whole cents count.
abbrev pub rounded_row : Row
rounded_row = record {
  series = option 1 Call 1000 26 ∷ option 1 Call 1250 26 ∷ [];
  notices = notice 0 10 333 0 0 0 0 0 0 ∷ [];
  market = market_of [];
  priced =
      record {
        legs = leg Buy 1 0 ∷ leg Sell 1 1 ∷ [];
        strategy = is Vertical 250;
        net = net None None;
        minimum = Some (pos 0);
        maximum = Some (pos 258);
        entries = enter Buy (Some (pos 258)) 1 (order 1) ∷ enter Buy (Some (pos 259)) 1 (refused 27 0) ∷ [];
      }
      ∷ [];
  works = (1, refused 32 1) ∷ [];
  tape = [];
}

-- 6. All bought, with ratios 2 and 1: a buy at 3 passes, at 2 it is below the Minimum; a sell at 2 is not checked.
abbrev pub bought_row : Row
bought_row = record {
  series = option 1 Call 3000 26 ∷ option 1 Put 3000 26 ∷ [];
  notices = [];
  market = market_of [];
  priced =
      record {
        legs = leg Buy 2 0 ∷ leg Buy 1 1 ∷ [];
        strategy = is Bought 0;
        net = net None None;
        minimum = Some (pos 3);
        maximum = None;
        entries = enter Buy (Some (pos 3)) 1 (order 1) ∷ enter Buy (Some (pos 2)) 1 (refused 25 0) ∷ enter Sell (Some (pos 2)) 1 (order 2) ∷ [];
      }
      ∷ [];
  works = (1, refused 32 1) ∷ (2, refused 32 1) ∷ [];
  tape = [];
}

-- 7. Calls at 100, 105 and 110 dollars with ratios 1, 2 and 1 are a butterfly; with 111 for 110 they are of class other.
abbrev pub butterfly_row : Row
butterfly_row = record {
  series = option 2 Call 10000 26 ∷ option 2 Call 10500 26 ∷ option 2 Call 11000 26 ∷ option 2 Call 11100 26 ∷ [];
  notices = [];
  market = market_of (quote 900 9 920 9 ∷ quote 510 9 530 9 ∷ quote 240 9 250 9 ∷ []);
  priced =
      record {
        legs = leg Buy 1 0 ∷ leg Sell 2 1 ∷ leg Buy 1 2 ∷ [];
        strategy = is Butterfly 500;
        net = net (Some (pos 80)) (Some (pos 150));
        minimum = Some (pos 0);
        maximum = Some (pos 500);
        entries = enter Buy None 1 (order 1) ∷ [];
      }
      ∷ record {
        legs = leg Buy 1 0 ∷ leg Sell 2 1 ∷ leg Buy 1 3 ∷ [];
        strategy = is Other 0;
        net = net None None;
        minimum = None;
        maximum = None;
        entries = enter Buy None 1 (order 2) ∷ [];
      }
      ∷ [];
  works = (1, fills 1 (pos 150)) ∷ (2, refused 32 3) ∷ [];
  tape = line 1 Butterfly Buy 1 (pos 150) 0 (at 0 (pos 1) 920 ∷ at 1 (minus 2) 510 ∷ at 2 (pos 1) 250 ∷ []) ∷ [];
}

-- 8. The same butterfly without an offer of the 100 dollar call: no net offer, the net bid as before.
abbrev pub absent_row : Row
absent_row = record {
  series = option 2 Call 10000 26 ∷ option 2 Call 10500 26 ∷ option 2 Call 11000 26 ∷ [];
  notices = [];
  market = market_of (record { bids = level 900 9 ∷ []; offers = [] } ∷ quote 510 9 530 9 ∷ quote 240 9 250 9 ∷ []);
  priced =
      record {
        legs = leg Buy 1 0 ∷ leg Sell 2 1 ∷ leg Buy 1 2 ∷ [];
        strategy = is Butterfly 500;
        net = net (Some (pos 80)) None;
        minimum = Some (pos 0);
        maximum = Some (pos 500);
        entries = enter Buy None 1 (order 1) ∷ [];
      }
      ∷ [];
  works = (1, refused 32 1) ∷ [];
  tape = [];
}

-- 9. A vertical of puts has the higher strike bought. A calendar has the Minimum Value Buffer of the verticals and no Maximum: a market sell
-- that would get -15 is prevented, a buy is not, whatever its limit.
abbrev pub calendar_row : Row
calendar_row = record {
  series = option 1 Put 2000 26 ∷ option 1 Put 2500 26 ∷ option 1 Call 2000 26 ∷ option 1 Call 2000 27 ∷ [];
  notices = notice 10 30 500 15 20 300 25 40 200 ∷ [];
  market = market_of (no_quote ∷ no_quote ∷ quote 100 9 120 9 ∷ quote 105 9 115 9 ∷ []);
  priced =
      record {
        legs = leg Sell 1 0 ∷ leg Buy 1 1 ∷ [];
        strategy = is Vertical 500;
        net = net None None;
        minimum = Some (minus 10);
        maximum = Some (pos 525);
        entries = enter Buy (Some (pos 525)) 1 (order 1) ∷ enter Buy (Some (pos 526)) 1 (refused 27 0) ∷ [];
      }
      ∷ record {
        legs = leg Sell 1 2 ∷ leg Buy 1 3 ∷ [];
        strategy = is Calendar 0;
        net = net (Some (minus 15)) (Some (pos 15));
        minimum = Some (minus 10);
        maximum = None;
        entries = enter Sell (Some (minus 11)) 1 (refused 26 0) ∷ enter Sell None 1 (order 2) ∷ enter Buy (Some (pos 20000000)) 1 (order 3) ∷ [];
      }
      ∷ [];
  works = (1, refused 32 1) ∷ (2, refused 34 0) ∷ (3, fills 1 (pos 15)) ∷ [];
  tape = line 3 Calendar Buy 1 (pos 15) 1 (at 2 (minus 1) 100 ∷ at 3 (pos 1) 115 ∷ []) ∷ [];
}

-- 10. A butterfly and a box of width 500 with buffers of their own: 3 % of the width are 15, less than 20, and 2 % are 10, less than 40.
abbrev pub buffers_row : Row
buffers_row = record {
  series = option 1 Call 2000 26 ∷ option 1 Put 2000 26 ∷ option 1 Call 2500 26 ∷ option 1 Put 2500 26 ∷ option 1 Put 3000 26 ∷ [];
  notices = notice 10 30 500 15 20 300 25 40 200 ∷ [];
  market = market_of [];
  priced =
      record {
        legs = leg Buy 1 1 ∷ leg Sell 2 3 ∷ leg Buy 1 4 ∷ [];
        strategy = is Butterfly 500;
        net = net None None;
        minimum = Some (minus 15);
        maximum = Some (pos 515);
        entries = enter Buy (Some (pos 515)) 1 (order 1) ∷ enter Buy (Some (pos 516)) 1 (refused 27 0) ∷ enter Buy (Some (minus 16)) 1 (refused 26 0) ∷ [];
      }
      ∷ record {
        legs = leg Buy 1 0 ∷ leg Sell 1 1 ∷ leg Sell 1 2 ∷ leg Buy 1 3 ∷ [];
        strategy = is BoxSpread 500;
        net = net None None;
        minimum = Some (minus 25);
        maximum = Some (pos 510);
        entries = enter Sell (Some (pos 510)) 1 (order 2) ∷ enter Sell (Some (pos 511)) 1 (refused 27 0) ∷ enter Sell (Some (minus 26)) 1 (refused 26 0) ∷ [];
      }
      ∷ [];
  works = (1, refused 32 1) ∷ (2, refused 32 1) ∷ [];
  tape = [];
}

abbrev pub rows : List Row
rows = box_row ∷ ladder_row ∷ vertical_row ∷ sell_row ∷ rounded_row ∷ bought_row ∷ butterfly_row ∷ absent_row ∷ calendar_row ∷ buffers_row ∷ []

abbrev pub WorkedPrices : Type 0
WorkedPrices = AllByRecursion Holds rows
