use Rattle.ua_certify.proofs.Flawless.{NamedConditions}
use Rattle.ua_certify.proofs.FlawlessAnswers.{closure_flawless, membership_flawless, condition_flawless, chains_flawless}
use Rattle.ua_certify.proofs.laws.flawless.Goals as goal

pub returns : goal.returns
returns c =
    let vector = c.flawless.ensures in
    let term = c.flawless-2.ensures in
    let members = c.kinds.ensures.vectors in
    let wide = c.patterns.ensures.wide in
    let named : NamedConditions =
    record { maltsev_is = c.named.ensures.maltsev; majority_is = c.named.ensures.majority; minority_is = c.named.ensures.minority; pixley_is = c.named.ensures.pixley; near_unanimity_is = c.named.ensures.near_unanimity } in
    record {
      closure = closure_flawless members vector.listing;
      membership = membership_flawless members vector.member vector.not_member;
      condition = condition_flawless named wide term.condition term.no_condition members c.conditions.ensures.arguments;
      chain = chains_flawless term.chain term.no_chain members wide c.patterns.ensures.places;
    }
