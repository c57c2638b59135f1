use Rattle.std.proofs.Common.{refl, ap, ◌∙◌}
use Rattle.market.specs.declared.quote.QuoteSide.TheVariants.{Bid, Offer}
use Rattle.market.specs.Levels.{best_of}
use Rattle.venues.specs.Ordered.{ordered, apart}
use Rattle.venues.specs.Depths.{depth_levels}
use Rattle.venues.specs.SeriesDepths.{series_levels}
use Rattle.venues.specs.Ranks.{ordered_taken, apart_bids_taken, apart_offers_taken, one_bid, one_offer}
use Rattle.venues.proofs.series.SeriesDepth.take.Goals as goal

pub invariant_of-self : goal.invariant_of-self
invariant_of-self c =
    let r = c.args.self.now in
    let e = c.take.ensures.after in
    record {
      falling = ap (ordered Bid) e ∙ ordered_taken Bid (depth_levels r.bids) c.args.n r.falling;
      rising = r.rising;
      clear = ap (λ ls. apart (best_of ls) (best_of (depth_levels r.offers))) e ∙ apart_bids_taken (depth_levels r.bids) (best_of (depth_levels r.offers)) c.args.n r.falling r.clear;
    }

pub invariant_of-self-in-Offer : goal.invariant_of-self-in-Offer
invariant_of-self-in-Offer c =
    let r = c.args.self.now in
    let e = c.take-in-Offer.ensures.after in
    record {
      falling = r.falling;
      rising = ap (ordered Offer) e ∙ ordered_taken Offer (depth_levels r.offers) c.args.n r.rising;
      clear = ap (λ ls. apart (best_of (depth_levels r.bids)) (best_of ls)) e ∙ apart_offers_taken (best_of (depth_levels r.bids)) (depth_levels r.offers) c.args.n r.rising r.clear;
    }

pub returns-in-Bid : goal.returns-in-Bid
returns-in-Bid c = simp c.in-Bid.is (record { answer = c.take.ensures.answer; after = one_bid (series_levels c.args.self.now) _ _ c.take.ensures.after refl })

pub returns-in-Offer : goal.returns-in-Offer
returns-in-Offer c = simp c.in-Offer.is (record { answer = c.take-in-Offer.ensures.answer; after = one_offer (series_levels c.args.self.now) _ _ c.take-in-Offer.ensures.after refl })
