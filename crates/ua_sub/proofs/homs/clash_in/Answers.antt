use Rattle.ua_sub.proofs.HomLaws.{clash_is}
use Rattle.ua_sub.proofs.homs.clash_in.Goals as goal

pub returns : goal.returns
returns c =
    clash_is c.args.frame.now c.args.pairs.now.items c.args.list.now c.first_clash-earlier.result.0 c.first_clash-earlier.result.1
    c.pair_at-element.result c.pair_at-second.result c.in_ok-first_steps.first_steps c.in_ok-second_steps.second_steps c.first_clash-earlier.ensures
    c.pair_at-element.ensures c.pair_at-second.ensures
    (c.in_ok-first_steps.ensures.value _ c.pair_at-element.ensures) (c.in_ok-second_steps.ensures.value _ c.pair_at-second.ensures) c.in_ok-first_steps.ensures.steps c.in_ok-second_steps.ensures.steps
