use Rattle.std.proofs.Common.{◌≡◌, ◌^◌, List, replicate, Err, sym, ap, ◌∙◌, subst, arith}
use Rattle.std.specs.List.{AllByRecursion}
use Rattle.std.proofs.lemmas.Nat.{mul-le}
use Rattle.std.proofs.lemmas.Result.{err_from_is_err_and}
use Rattle.std.specs.Prelude.{Result, IfErr}
use Rattle.ua_close.specs.declared.close.CloseError.{CloseError}
use Rattle.ua_table.specs.Algebras.{Vector, Product, IsVector}
use Rattle.ua_table.specs.VectorLists.{VectorList}
use Rattle.ua_term.specs.Assignments.{projections, power_of_assignments}
use Rattle.ua_close.specs.Answers.{IsCause}
use Rattle.ua_free.proofs.MemberLaws.{power_some, projections_admitted, length_projections}
use Rattle.ua_free.proofs.free_algebras.generators.Goals as goal

pub power_within-requires-clause-some : goal.power_within-requires-clause-some
power_within-requires-clause-some c =
    let width = c.assignment_count-width.ensures.count ∙ ap (λ n. n ^ c.args.k) c.size.ensures.size in
    let some = power_some c.args.a.now.size c.args.k c.size.ensures.algebra.algebra.inhabited in
    omega (arith, width, some)

pub power_within-requires-clause-cells : goal.power_within-requires-clause-cells
power_within-requires-clause-cells c =
    let width = c.assignment_count-width.ensures.count ∙ ap (λ n. n ^ c.args.k) c.size.ensures.size in
    let small = c.requires.small in
    let low = mul-le c.args.budget c.assignment_count-width.result 1000000 1000000000000000000000000 small c.assignment_count-width.ensures.small in
    omega (arith, low)

pub returns-in_err-frame-clause-cause : goal.returns-in_err-frame-clause-cause
returns-in_err-frame-clause-cause c =
    let a = c.args.a.now in
    let gens = projections a.size c.args.k in
    let width = c.assignment_count-width.ensures.count ∙ ap (λ n. n ^ c.args.k) c.size.ensures.size in
    let cause = c.in_err-frame.ensures.cause gens (length_projections a.size c.args.k ∙ sym c.from.ensures) in
    let e = c.in_err-frame.field-0.0 in
    let p = err_from_is_err_and c.from_residual.result c.from_residual.ensures.1 in
    subst (λ (r : Result (Product × VectorList) CloseError). IfErr r (IsCause (power_of_assignments a c.args.k) gens c.args.budget)) (sym (p.1 ∙ ap Err p.2)) (subst (λ n. IsCause (replicate n a) gens c.args.budget e) width cause)

pub returns-clause-frame : goal.returns-clause-frame
returns-clause-frame c =
    let width = c.assignment_count-width.ensures.count ∙ ap (λ n. n ^ c.args.k) c.size.ensures.size in
    c.in_ok-frame.ensures.frame ∙ ap (λ n. replicate n c.args.a.now) width

pub returns-clause-generators : goal.returns-clause-generators
returns-clause-generators c = c.in_ok-gens.ensures ∙ ap (λ n. projections n c.args.k) c.size-2.ensures.size

pub returns-clause-admitted : goal.returns-clause-admitted
returns-clause-admitted c =
    let a = c.args.a.now in
    let width = c.assignment_count-width.ensures.count ∙ ap (λ n. n ^ c.args.k) c.size.ensures.size in
    let frame : c.in_ok-frame.frame ≡ power_of_assignments a c.args.k = c.in_ok-frame.ensures.frame ∙ ap (λ n. replicate n a) width in
    let gens : c.in_ok-gens.gens.items ≡ projections a.size c.args.k = c.in_ok-gens.ensures ∙ ap (λ n. projections n c.args.k) c.size-2.ensures.size in
    subst (λ (q : Product × List Vector). AllByRecursion (IsVector q.0) q.1) (λ i. (sym frame i, sym gens i)) (projections_admitted a c.args.k)
