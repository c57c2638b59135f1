use Rattle.std.proofs.Common.{◌<◌, length, inl, inr, rules}
use Rattle.std.proofs.lemmas.Bool.Decides.{not_from_Decides}
use Rattle.strategy.proofs.Excluded.{other_count}
use Rattle.strategy.proofs.Short.{two_are, three_are, four_are, no_leg}
use Rattle.strategy.proofs.class.long_form.Goals as goal

pub returns-in-len2 : goal.returns-in-len2
returns-in-len2 c = rw (two_are c.args.legs.now no_leg no_leg (search rules)) c.two_legs.ensures

pub returns-in-len3 : goal.returns-in-len3
returns-in-len3 c = rw (three_are c.args.legs.now no_leg no_leg no_leg (search rules)) c.three_legs.ensures

pub returns-in-len4 : goal.returns-in-len4
returns-in-len4 c = rw (four_are c.args.legs.now no_leg no_leg no_leg no_leg (search rules)) c.four_legs.ensures

pub returns-in_default : goal.returns-in_default
returns-in_default c =
    let short : length c.args.legs.now < 2 = search rules in
    other_count _ (not_from_Decides _ c.all_bought.ensures c.if-all_bought.false) (inl short)

pub returns-in_default-2 : goal.returns-in_default-2
returns-in_default-2 c =
    let long : 4 < length c.args.legs.now = search rules in
    other_count _ (not_from_Decides _ c.all_bought.ensures c.if-all_bought.false) (inr long)
