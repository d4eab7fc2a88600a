use Rattle.std.proofs.Common.{List, sym, subst, replicate}
use Rattle.std.specs.List.{AllByRecursion}
use Rattle.ua_table.specs.Algebras.{Vector, Product, IsProduct, IsVector}
use Rattle.ua_close.specs.Permitted.{MayClose}
use Rattle.ua_matrix.specs.Matrices.{matrix_generators}
use Rattle.ua_matrix.proofs.MatrixLaws.{generators_vectors, closure_four}
use Rattle.ua_matrix.proofs.centrality.matrices.Goals as goal

pub close_set-requires-after_bounds : goal.close_set-requires-after_bounds
close_set-requires-after_bounds g c _ _ =
    let a = c.args.a.now in
    subst (λ (p : Product). AllByRecursion (IsVector p) c.in_ok-gens.gens.items) (sym c.in-Ok.ensures.ok)
    (subst (AllByRecursion (IsVector (replicate 4 a))) (sym c.in_ok-gens.ensures.items)
    (generators_vectors a c.args.alpha.now c.args.beta.now c.requires.alpha c.requires.beta))

pub returns-clause-four : goal.returns-clause-four
returns-clause-four g c =
    let a = c.args.a.now in
    let alpha = c.args.alpha.now in
    let beta = c.args.beta.now in
    let b = c.args.run.now.budget in
    let w = c.args.run.now.workers in
    let answer = c.close_set.result in
    let admitted = generators_vectors a alpha beta c.requires.alpha c.requires.beta in
    let product : IsProduct (replicate 4 a) = subst IsProduct c.in-Ok.ensures.ok c.width-width.ensures.product in
    closure_four a alpha beta (λ v s. c.kinds.ensures.vectors (replicate 4 a) (matrix_generators alpha beta) v product admitted s) b w answer
    (subst (λ (p : Product). MayClose p (matrix_generators alpha beta) b w answer) c.in-Ok.ensures.ok
    (subst (λ (gens : List Vector). MayClose c.in-Ok.frame gens b w answer) c.in_ok-gens.ensures.items c.close_set.ensures.permitted))
