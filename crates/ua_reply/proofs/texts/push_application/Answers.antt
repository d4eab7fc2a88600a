use Rattle.std.proofs.Common.{◌≡◌, ◌≤◌, List, Some, take, slice_get, ◌++◌, length, ap, sym, refl, ◌∙◌, append-nil, append_assoc, subst, arith}
use Rattle.std.proofs.lemmas.Bool.Decides.{nat_tests}
use Rattle.std.proofs.lemmas.Option.{slice_get_read}
use Rattle.ua_table.specs.Algebras.{Operation, FiniteAlgebra}
use Rattle.ua_part.specs.Blocks.{more_numbers}
use Rattle.ua_reply.proofs.Rows.{no_application, application_at}
use Rattle.ua_reply.proofs.texts.push_application.Goals as goal

pub returns-in_default : goal.returns-in_default
returns-in_default c =
    let none = c.in_default.ensures.lookup.0 in
    let far' : length c.ops.result.now ≤ c.args.op = grind (arith, nat_tests, none) in
    let far : length c.args.known.now.algebra.operations ≤ c.args.op = subst (λ (ops : List Operation). length ops ≤ c.args.op) (c.ops.ensures.operations ∙ ap (λ (a : FiniteAlgebra). a.operations) c.algebra.ensures) far' in
    sym (ap (λ t. c.args.out.now.items ++ t) (no_application c.args.known.now.algebra.operations c.args.op c.args.args.now far) ∙ append-nil c.args.out.now.items)

pub returns : goal.returns
returns c =
    let operations = c.args.known.now.algebra.operations in
    let table = c.in-Some.table.now in
    let args = c.args.args.now in
    let out = c.args.out.now.items in
    let same = c.ops.ensures.operations ∙ ap (λ (a : FiniteAlgebra). a.operations) c.algebra.ensures in
    let found = slice_get_read c.ops.result.now (length c.ops.result.now) c.args.op table refl c.in-Some.ensures.lookup.3.0 c.in-Some.ensures.lookup.1 in
    let there : slice_get operations c.args.op ≡ Some table = ap (λ ops. slice_get ops c.args.op) (sym same) ∙ found in
    let numbers = more_numbers (take c.arity.result args) in
    let named = ap (λ t. t ++ numbers) (c.text.ensures.text ∙ c.name.ensures.name) in
    let counted = ap (λ k. table.name ++ more_numbers (take k args)) c.arity.ensures.arity in
    c.in_ok-push_more.ensures ∙ ap (λ t. t ++ numbers) c.in_ok-extend_from_slice.ensures.items ∙ append_assoc out c.text.result.now numbers
    ∙ ap (λ t. out ++ t) (named ∙ counted ∙ sym (application_at operations c.args.op table args there))
