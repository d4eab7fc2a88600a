use Rattle.std.proofs.Common.{refl, sym, ap, ◌∙◌}
use Rattle.std.proofs.lemmas.Result.{IfOk-weaker}
use Rattle.ua_chain.specs.Names.{kind_named}
use Rattle.ua_reply.specs.Sessions.{bounds_of, lookup}
use Rattle.ua_reply.specs.Checks.{passed}
use Rattle.ua_reply.proofs.Answering.{known_answered}
use Rattle.ua_answer_conditions.specs.ChainCommand.{ChainAnswer}
use Rattle.ua_answer_conditions.proofs.chains.answer_chain.Goals as goal

pub returns : goal.returns
returns g c =
    let s = c.args.context.now.session.now in
    let b = bounds_of c.args.context.now.run.now in
    let k = c.in-Some.known.now in
    let kind = kind_named c.args.asked in
    let known = sym (c.in-Some.ensures ∙ ap (lookup s) c.text.ensures.text) in
    IfOk-weaker c.chain_reply.result _ _
    (λ v text. known_answered s c.args.algebra.now (λ k. passed) (λ k. ChainAnswer k b kind) k v.items known refl (record { answer = c.chain-answer.result; permitted = c.chain-answer.ensures; told = text }))
    c.chain_reply.ensures
