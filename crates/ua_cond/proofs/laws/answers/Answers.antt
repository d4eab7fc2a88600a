use Rattle.std.proofs.Common.{arith}
use Rattle.std.proofs.lemmas.List.{length-map}
use Rattle.ua_table.proofs.AlgebraLaws.{power_product}
use Rattle.ua_identity.specs.Identities.{TermIdentity}
use Rattle.ua_identity.specs.Patterns.{condition_power, argument_vectors, value_vector, patterns_of}
use Rattle.ua_close.proofs.AnswerLaws.{may_member}
use Rattle.ua_cond.proofs.DecisionLaws.{decides}
use Rattle.ua_cond.proofs.FrameLaws.{coordinates, width_is}
use Rattle.ua_cond.proofs.laws.answers.Goals as goal

pub returns : goal.returns
returns c = λ a k b w alg is.
    let some = alg.inhabited in
    let count = length-map k.identities (λ (i : TermIdentity). i.pattern) in
    let identity = is.identity in
    let wide = c.patterns.ensures.wide a (patterns_of k) some (omega (arith, count, identity)) in
    let product = power_product a (coordinates a k) alg (let n = width_is a k in omega (arith, wide, n)) in
    let h = may_member (condition_power a k) (argument_vectors a k) b w product (c.conditions.ensures.arguments a k is) (value_vector a k) in
    record {
      answer = h.answer;
      permitted = (h.permitted, decides a k (λ t. c.conditions.ensures.written a k t some is) (c.conditions.ensures.member a k some is) b w h.answer h.permitted);
      told = h.told;
    }
