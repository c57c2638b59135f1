use Rattle.std.proofs.Common.{◌<◌, ◌≤◌, length, get_or, set, Err, sym, refl, ap, ◌∙◌, arith, length-set}
use Rattle.std.proofs.lemmas.Result.{err_from_is_err_and}
use Rattle.venues.specs.Quotes.{no_quote, sound, taken_level, table_levels}
use Rattle.market.specs.Sides.{side_of}
use Rattle.market.proofs.Replaced.{refused_same}
use Rattle.venues.specs.Tables.{taken_err, refused_answer, past_refused, done_answer, done_after, sound_set, sound_taken}
use Rattle.venues.proofs.board.methods.BoardMarket.take.Goals as goal

pub returns-then-series-ge-SERIES : goal.returns-then-series-ge-SERIES
returns-then-series-ge-SERIES c =
    let b = c.args.self.now in
    let past : length b.quotes ≤ c.args.series = omega arith in
    let no = past_refused b.quotes c.args.series c.args.side c.args.n past in
    record {
      answer = sym (refused_answer b.quotes c.args.series c.args.side c.args.n no);
      after = sym (refused_same (table_levels b.quotes) c.args.series c.args.side c.args.n no);
      same = refl;
    }

pub returns-in_err-rest : goal.returns-in_err-rest
returns-in_err-rest c =
    let b = c.args.self.now in
    let e = ap (λ o. taken_level o c.args.n) (sym c.side.ensures) ∙ sym c.take_level.ensures ∙ c.in_err-rest.was in
    let no = taken_err (side_of (get_or b.quotes c.args.series no_quote) c.args.side) c.args.n _ e in
    let p = err_from_is_err_and c.from_residual.result c.from_residual.ensures.1 in
    record {
      answer = p.1 ∙ ap Err (p.2 ∙ no.1) ∙ sym (refused_answer b.quotes c.args.series c.args.side c.args.n no.0);
      after = sym (refused_same (table_levels b.quotes) c.args.series c.args.side c.args.n no.0);
      same = refl;
    }

pub invariant_of-self : goal.invariant_of-self
invariant_of-self c =
    let b = c.args.self.now in
    let within : c.args.series < length b.quotes = omega arith in
    let e = ap (λ o. taken_level o c.args.n) (sym c.side.ensures) ∙ sym c.take_level.ensures ∙ c.in_ok-rest.was in
    let ok = ap sound c.with.ensures ∙ sound_taken (get_or b.quotes c.args.series no_quote) c.args.side c.args.n _ (b.ok c.args.series) e in
    record { size = length-set b.quotes c.args.series c.with.result ∙ b.size; ok = sound_set b.quotes c.args.series c.with.result within ok b.ok }

pub returns : goal.returns
returns c =
    let b = c.args.self.now in
    let within : c.args.series < length b.quotes = omega arith in
    let e = ap (λ o. taken_level o c.args.n) (sym c.side.ensures) ∙ sym c.take_level.ensures ∙ c.in_ok-rest.was in
    record {
      answer = sym (done_answer b.quotes c.args.series c.args.side c.args.n _ e);
      after = ap (λ q. table_levels (set b.quotes c.args.series q)) c.with.ensures ∙ done_after b.quotes c.args.series c.args.side c.args.n _ e within;
      same = refl;
    }
