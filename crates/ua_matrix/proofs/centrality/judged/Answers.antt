use Rattle.std.proofs.Common.{◌≡◌, List, [], sym, ap, ◌∙◌, subst, Some}
use Rattle.std.specs.Prelude.{slice_get, IfNone}
use Rattle.std.specs.List.{AllByRecursion}
use Rattle.std.proofs.lemmas.Option.{get_or_from_slice_get}
use Rattle.ua_table.specs.Algebras.{Vector, Product, arities}
use Rattle.ua_table.specs.Listings.{vectors_of}
use Rattle.ua_table.proofs.Lists.{all_at, Contains-slice_get}
use Rattle.ua_close.specs.Memberships.{AreStepsTo}
use Rattle.ua_close.specs.Needed.{AreStepsFor}
use Rattle.ua_matrix.specs.Matrices.{matrix_generators, IsMatrix, AreFour, Goes, Fails}
use Rattle.ua_matrix.proofs.CentralLaws.{centralizes_from_list, not_central}
use Rattle.ua_matrix.proofs.centrality.judged.Goals as goal

pub first_failure-requires : goal.first_failure-requires
first_failure-requires c = record { matrices = subst (λ n. AllByRecursion (AreFour n) (vectors_of c.args.list.now)) (sym c.requires.delta.size) c.requires.four }

pub returns-in_default : goal.returns-in_default
returns-in_default c =
    let delta = c.args.delta.now in
    centralizes_from_list c.args.a.now c.args.alpha.now c.args.beta.now delta (vectors_of c.args.list.now) (λ m. c.requires.closed.1.exact m)
    (subst (λ o. IfNone o (AllByRecursion (Goes delta) (vectors_of c.args.list.now))) c.in_default.is c.first_failure.ensures.none)

pub four-matrix-requires : goal.four-matrix-requires
four-matrix-requires c =
    let rows = vectors_of c.args.list.now in
    (all_at (AreFour c.args.a.now.size) rows c.row.result.now c.requires.four (Contains-slice_get rows c.in-Some.i c.row.result.now c.row.ensures)).width

pub returns : goal.returns
returns c =
    let a = c.args.a.now in
    let alpha = c.args.alpha.now in
    let beta = c.args.beta.now in
    let delta = c.args.delta.now in
    let rows = vectors_of c.args.list.now in
    let i = c.in-Some.i in
    let m = c.four-matrix.result in
    let first = c.in-Some.ensures.some in
    let here : slice_get rows i ≡ Some m = c.row.ensures ∙ ap (λ (v : Vector). Some v) (sym c.four-matrix.ensures) in
    let fails : Fails delta m = subst (Fails delta) (get_or_from_slice_get rows i m [] here) first.fails in
    let generated : IsMatrix a alpha beta m = (c.requires.closed.1.exact m).0 (Contains-slice_get rows i m here) in (
      not_central a alpha beta delta m generated fails,
      record {
        generated = generated;
        fails = fails;
        value = subst (λ (p : Product). AreStepsTo p (matrix_generators alpha beta) m c.in_ok-steps.steps) c.in-Ok.ensures.ok
            (subst (λ (gens : List Vector). AreStepsTo c.in-Ok.frame gens m c.in_ok-steps.steps) c.in_ok-gens.ensures.items (c.in_ok-steps.ensures.value m here));
      },
      record {
        place = i;
        stands = here;
        first = first;
        steps_are = subst (λ (p : Product). AreStepsFor (arities p) c.args.list.now i c.in_ok-steps.steps.items) c.in-Ok.ensures.ok c.in_ok-steps.ensures.steps;
      },
    )
