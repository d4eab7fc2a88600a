use Rattle.std.proofs.Common.{length, sym, ap, ◌∙◌, arith}
use Rattle.std.proofs.lemmas.List.{length-map}
use Rattle.std.proofs.lemmas.Option.{slice_get_within}
use Rattle.ua_table.specs.Algebras.{Operation, FiniteAlgebra, names_of}
use Rattle.ua_term.specs.Meanings.{operation_number}
use Rattle.ua_term.proofs.Naming.{named_number}
use Rattle.ua_answer_algebras.proofs.Reducts.{absent_number}
use Rattle.ua_answer_algebras.proofs.reduct.number_of.Goals as goal

pub returns-in-Some-clause-number : goal.returns-in-Some-clause-number
returns-in-Some-clause-number c =
    let a = c.algebra-algebra.result.now in
    sym (named_number a c.in-Some.f c.text.result.now c.size-size.ensures.algebra.names c.in-Some.ensures.some) ∙ (λ i. operation_number (c.algebra-algebra.ensures i) (c.text.ensures.text i))

pub returns-in-Some-clause-most : goal.returns-in-Some-clause-most
returns-in-Some-clause-most c =
    let a = c.algebra-algebra.result.now in
    let low = slice_get_within (names_of a.operations) c.in-Some.f c.text.result.now c.in-Some.ensures.some in
    let count = length-map a.operations (λ (o : Operation). o.name) in
    let same = ap (λ (a : FiniteAlgebra). length a.operations) c.algebra-algebra.ensures in
    omega (arith, low, count, same)

pub returns-in-None-clause-number : goal.returns-in-None-clause-number
returns-in-None-clause-number c =
    let a = c.algebra-algebra.result.now in
    ap (length {A = Operation}) c.ops.ensures.operations ∙ sym (absent_number a c.text.result.now c.in-None.ensures.none) ∙ (λ i. operation_number (c.algebra-algebra.ensures i) (c.text.ensures.text i))
