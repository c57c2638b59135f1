use Rattle.std.proofs.Common.{◌≡◌, true, false, sym, refl, ap, ◌∙◌, subst}
use Rattle.market.specs.declared.quote.QuoteSide.TheVariants.{Bid, Offer}
use Rattle.market.specs.Sides.{opposite}
use Rattle.market.specs.Levels.{best_of}
use Rattle.venues.specs.Depths.{depth_levels}
use Rattle.venues.specs.Ordered.{ordered, apart}
use Rattle.venues.specs.Sizes.{blocked}
use Rattle.venues.specs.SeriesDepths.{series_levels}
use Rattle.venues.specs.Ranks.{one_bid, one_offer}
use Rattle.venues.proofs.Sizes.{ordered_sized, bids_sized, offers_sized, blocked_answer, blocked_after, free_answer, free_after, free_meets, left_both, side_back, answer_at, after_at}
use Rattle.venues.proofs.series.SeriesDepth.level.Goals as goal

pub returns-then-is_blocked : goal.returns-then-is_blocked
returns-then-is_blocked c =
    let f = series_levels c.args.self.now in
    let s = c.args.side in
    let p = c.args.level.price in
    let n = c.args.level.size in
    let met = ap (blocked s p n) (sym (c.first.ensures ∙ ap (λ t. best_of (f t)) c.opposite.ensures)) ∙ sym c.is_blocked.ensures ∙ c.if-is_blocked.true in
    record {
      answer = blocked_answer s p n (f s) (f (opposite s)) met;
      after = side_back f s _ (blocked_after s p n (f s) (f (opposite s)) met);
    }

pub invariant_of-self : goal.invariant_of-self
invariant_of-self c =
    let r = c.args.self.now in
    let f = series_levels r in
    let p = c.args.level.price in
    let n = c.args.level.size in
    let e = c.set.ensures.after in
    let free = ap (blocked c.args.side p n) (sym (c.first.ensures ∙ ap (λ t. best_of (f t)) c.opposite.ensures)) ∙ sym c.is_blocked.ensures ∙ c.if-is_blocked.false in
    let clear = subst (λ t. blocked t p n (best_of (f (opposite t))) ≡ false) c.in-Bid.is free in
    record {
      falling = left_both (λ ls. ordered Bid ls ≡ true) Bid p n (depth_levels r.bids) (depth_levels c.set.new.self) e r.falling (ordered_sized Bid p n (depth_levels r.bids) c.requires.price.0 c.requires.price.1 c.requires.size r.falling);
      rising = r.rising;
      clear = left_both (λ ls. apart (best_of ls) (best_of (depth_levels r.offers)) ≡ true) Bid p n (depth_levels r.bids) (depth_levels c.set.new.self) e r.clear (bids_sized p n (depth_levels r.bids) (best_of (depth_levels r.offers)) r.falling r.clear (free_meets Bid p n (best_of (depth_levels r.offers)) clear));
    }

pub invariant_of-self-in-Offer : goal.invariant_of-self-in-Offer
invariant_of-self-in-Offer c =
    let r = c.args.self.now in
    let f = series_levels r in
    let p = c.args.level.price in
    let n = c.args.level.size in
    let e = c.set-in-Offer.ensures.after in
    let free = ap (blocked c.args.side p n) (sym (c.first.ensures ∙ ap (λ t. best_of (f t)) c.opposite.ensures)) ∙ sym c.is_blocked.ensures ∙ c.if-is_blocked.false in
    let clear = subst (λ t. blocked t p n (best_of (f (opposite t))) ≡ false) c.in-Offer.is free in
    record {
      falling = r.falling;
      rising = left_both (λ ls. ordered Offer ls ≡ true) Offer p n (depth_levels r.offers) (depth_levels c.set-in-Offer.new.self) e r.rising (ordered_sized Offer p n (depth_levels r.offers) c.requires.price.0 c.requires.price.1 c.requires.size r.rising);
      clear = left_both (λ ls. apart (best_of (depth_levels r.bids)) (best_of ls) ≡ true) Offer p n (depth_levels r.offers) (depth_levels c.set-in-Offer.new.self) e r.clear (offers_sized p n (depth_levels r.offers) (best_of (depth_levels r.bids)) r.rising r.clear (free_meets Offer p n (best_of (depth_levels r.bids)) clear));
    }

pub returns-in-Bid : goal.returns-in-Bid
returns-in-Bid c =
    let f = series_levels c.args.self.now in
    let p = c.args.level.price in
    let n = c.args.level.size in
    let free = ap (blocked c.args.side p n) (sym (c.first.ensures ∙ ap (λ t. best_of (f t)) c.opposite.ensures)) ∙ sym c.is_blocked.ensures ∙ c.if-is_blocked.false in
    let clear = subst (λ t. blocked t p n (best_of (f (opposite t))) ≡ false) c.in-Bid.is free in
    record {
      answer = answer_at f p n c.args.side Bid c.in-Bid.is _ (free_answer Bid p n (f Bid) (f Offer) c.set.result clear c.set.ensures.answer);
      after = after_at f p n c.args.side Bid c.in-Bid.is _ (one_bid f _ _ (free_after Bid p n (f Bid) (f Offer) (depth_levels c.set.new.self) clear c.set.ensures.after) refl);
    }

pub returns-in-Offer : goal.returns-in-Offer
returns-in-Offer c =
    let f = series_levels c.args.self.now in
    let p = c.args.level.price in
    let n = c.args.level.size in
    let free = ap (blocked c.args.side p n) (sym (c.first.ensures ∙ ap (λ t. best_of (f t)) c.opposite.ensures)) ∙ sym c.is_blocked.ensures ∙ c.if-is_blocked.false in
    let clear = subst (λ t. blocked t p n (best_of (f (opposite t))) ≡ false) c.in-Offer.is free in
    record {
      answer = answer_at f p n c.args.side Offer c.in-Offer.is _ (free_answer Offer p n (f Offer) (f Bid) c.set-in-Offer.result clear c.set-in-Offer.ensures.answer);
      after = after_at f p n c.args.side Offer c.in-Offer.is _ (one_offer f _ _ (free_after Offer p n (f Offer) (f Bid) (depth_levels c.set-in-Offer.new.self) clear c.set-in-Offer.ensures.after) refl);
    }
