use Rattle.std.proofs.Common.{◌<◌, length, set, ap, ◌∙◌, arith, length-set}
use Rattle.venues.specs.Quotes.{table_levels, quote_answer, quoted_levels}
use Rattle.venues.specs.Tables.{table_set, sound_set, table_uncrossed}
use Rattle.venues.proofs.board.Board.quote.Goals as goal

pub invariant_of-self : goal.invariant_of-self
invariant_of-self c =
    let b = c.args.self.now in
    let read = c.in_ok-series.ensures.sound in
    let within : c.in_ok-series.series < length b.quotes = omega arith in
    record { size = length-set b.quotes c.in_ok-series.series c.in_ok-series.quote ∙ b.size; ok = sound_set b.quotes c.in_ok-series.series c.in_ok-series.quote within read.1 b.ok }

pub returns : goal.returns
returns c =
    let b = c.args.self.now in
    let read = c.in_ok-series.ensures.value in
    let low = c.in_ok-series.ensures.sound.0 in
    let within : c.in_ok-series.series < length b.quotes = omega arith in
    record {
      answer = ap quote_answer read;
      uncrossed = table_uncrossed (set b.quotes c.in_ok-series.series c.in_ok-series.quote) (sound_set b.quotes c.in_ok-series.series c.in_ok-series.quote within c.in_ok-series.ensures.sound.1 b.ok);
      after = table_set b.quotes c.in_ok-series.series c.in_ok-series.quote within ∙ ap (quoted_levels (table_levels b.quotes)) read;
    }
