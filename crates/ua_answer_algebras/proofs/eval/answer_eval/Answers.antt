use Rattle.std.proofs.Common.{◌≡◌, List, ◌++◌, None, codes, length, sym, ap, ◌∙◌, subst}
use Rattle.std.proofs.lemmas.Result.{IfOk-weaker}
use Rattle.ua_operands.specs.declared.written.Entry.{Entry}
use Rattle.ua_reply.specs.Sessions.{lookup}
use Rattle.ua_reply.specs.Checks.{Passes, ◌and◌, first_error}
use Rattle.ua_reply.specs.Operands.{term_in, elements_in}
use Rattle.ua_reply.specs.Texts.{line, element_text}
use Rattle.ua_reply.proofs.Answering.{known_answered}
use Rattle.ua_answer_algebras.specs.EvalCommand.{eval_checks, EvalAnswer}
use Rattle.ua_answer_algebras.proofs.eval.answer_eval.Goals as goal

pub value-requires-clause-term : goal.value-requires-clause-term
value-requires-clause-term g c =
    let k = c.in-Some.known.now in
    let t = term_in k (length c.as_slice-entries.result.now) c.args.term.now in
    let e = elements_in k c.as_slice-entries.result.now in
    let passes = c.in_default-refusal.ensures.none (t and e) (c.and-errors.ensures.first t e c.term_in.ensures c.elements_in.ensures) in
    subst (λ (es : List Entry). Passes (term_in k (length es) c.args.term.now)) c.as_slice-entries.ensures (c.and-errors.ensures.each t e passes).0

pub value-requires-clause-args : goal.value-requires-clause-args
value-requires-clause-args g c =
    let k = c.in-Some.known.now in
    let t = term_in k (length c.as_slice-entries.result.now) c.args.term.now in
    let e = elements_in k c.as_slice-entries.result.now in
    let passes = c.in_default-refusal.ensures.none (t and e) (c.and-errors.ensures.first t e c.term_in.ensures c.elements_in.ensures) in
    subst (λ (es : List Entry). Passes (elements_in k es)) c.as_slice-entries.ensures (c.and-errors.ensures.each t e passes).1

pub returns : goal.returns
returns g c =
    let s = c.args.context.now.session.now in
    let k = c.in-Some.known.now in
    let term = c.args.term.now in
    let args = c.args.args.now in
    let known = sym (c.in-Some.ensures ∙ ap (lookup s) c.text.ensures.text) in
    let t = term_in k (length c.as_slice-entries.result.now) term in
    let e = elements_in k c.as_slice-entries.result.now in
    let first = sym (c.in_default-refusal.ensures.first (t and e) (c.and-errors.ensures.first t e c.term_in.ensures c.elements_in.ensures)) in
    let none = subst (λ (es : List Entry). first_error (term_in k (length es) term and elements_in k es) ≡ None) c.as_slice-entries.ensures first in
    IfOk-weaker c.value_reply.result _ _
    (λ v text. known_answered s c.args.algebra.now (λ k. eval_checks k term args) (λ k. EvalAnswer k term args) k v.items known none (text ∙ ap (λ x. line (codes "value " ++ element_text k x)) c.in_ok-value.ensures))
    c.value_reply.ensures
