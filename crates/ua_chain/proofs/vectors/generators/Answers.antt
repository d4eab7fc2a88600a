use Rattle.std.proofs.Common.{◌≡◌, List, length, map, replicate, Err, sym, ap, ◌∙◌, subst, arith}
use Rattle.std.specs.Prelude.{Result, IfErr}
use Rattle.std.specs.List.{AllByRecursion, range_with_len}
use Rattle.std.proofs.lemmas.Result.{err_from_is_err_and}
use Rattle.ua_close.specs.declared.close.CloseError.{CloseError}
use Rattle.ua_table.specs.Algebras.{Vector, Product, IsVector}
use Rattle.ua_table.specs.VectorLists.{VectorList}
use Rattle.ua_close.specs.Answers.{IsCause}
use Rattle.ua_identity.specs.Patterns.{all_fillings, place_vector}
use Rattle.ua_identity.specs.Chains.{power_of, generators_of}
use Rattle.ua_identity.proofs.KindLaws.{some_fillings}
use Rattle.ua_identity.proofs.ChainLaws.{generator_count}
use Rattle.ua_chain.proofs.VectorLaws.{generators_fit}
use Rattle.ua_chain.proofs.vectors.generators.Goals as goal

pub power_within-requires-clause-some : goal.power_within-requires-clause-some
power_within-requires-clause-some c =
    let width = c.width_of-width.ensures.width ∙ (λ i. length (all_fillings (c.size.ensures.size i) (c.patterns.ensures.patterns i))) in
    let some = some_fillings c.args.a.now.size c.args.kind.now c.places-places.ensures.kind c.size.ensures.algebra.algebra.inhabited in
    omega (arith, width, some)

pub returns-in_err-frame-clause-cause : goal.returns-in_err-frame-clause-cause
returns-in_err-frame-clause-cause c =
    let a = c.args.a.now in
    let kind = c.args.kind.now in
    let gens = generators_of a kind in
    let width = c.width_of-width.ensures.width ∙ (λ i. length (all_fillings (c.size.ensures.size i) (c.patterns.ensures.patterns i))) in
    let count : length gens ≡ c.from.result = generator_count a kind.patterns kind.places ∙ sym c.places-places.ensures.places ∙ sym c.from.ensures in
    let cause = c.in_err-frame.ensures.cause gens count in
    let e = c.in_err-frame.field-0.0 in
    let p = err_from_is_err_and c.from_residual.result c.from_residual.ensures.1 in
    subst (λ (r : Result (Product × VectorList) CloseError). IfErr r (IsCause (power_of a kind) gens c.args.budget)) (sym (p.1 ∙ ap Err p.2)) (subst (λ n. IsCause (replicate n a) gens c.args.budget e) width cause)

pub returns-clause-admitted : goal.returns-clause-admitted
returns-clause-admitted c =
    let a = c.args.a.now in
    let kind = c.args.kind.now in
    let width = c.width_of-width.ensures.width ∙ (λ i. length (all_fillings (c.size.ensures.size i) (c.patterns.ensures.patterns i))) in
    let frame : c.in_ok-frame.frame ≡ power_of a kind = c.in_ok-frame.ensures.frame ∙ ap (λ n. replicate n a) width in
    let gens : c.in_ok-gens.gens.items ≡ generators_of a kind =
    c.in_ok-gens.ensures.vectors
    ∙ (λ i.
    map (place_vector (all_fillings (c.size-2.ensures.size i) (c.patterns-2.ensures.patterns i)))
    (range_with_len 0 (c.places-places.ensures.places i))) in
    subst (λ (q : Product × List Vector). AllByRecursion (IsVector q.0) q.1) (λ i. (sym frame i, sym gens i)) (generators_fit a kind c.places-places.ensures.kind)
