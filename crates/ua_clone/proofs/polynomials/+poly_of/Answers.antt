use Rattle.std.proofs.Common.{◌+◌, ◌<◌, ◌^◌, length, map, sym, ◌∙◌, ap, subst, arith}
use Rattle.std.proofs.lemmas.List.{take_all}
use Rattle.ua_table.specs.Terms.{Application, IsTerm}
use Rattle.ua_term.specs.declared.terms.Term.{Term}
use Rattle.ua_term.specs.Trees.{tree_of, trees}
use Rattle.ua_term.proofs.TreeLaws.{op_tree, term_among, fewer_nodes}
use Rattle.ua_clone.proofs.PolyLaws.{op_poly, op_variables, greatest_most}
use Rattle.ua_clone.proofs.polynomials.+poly_of.Goals as goal

pub poly_of-requires : goal.poly_of-requires
poly_of-requires t c =
    let ts = c.in-Op.terms.items in
    let l : c.loop-i.i < length ts = let m = c.loop-i-test.true in let n = c.len-i-end.ensures in omega (arith, m, n) in
    let fewer = fewer_nodes c.args.term.now c.in-Op.f c.in-Op.terms c.loop-i.i c.index.result.now c.in-Op.is l c.index.ensures in
    let now = c.decreases in
    let ks = c.requires.0 in
    let g = c.args.k + 2 ^ 16 in
    let is : IsTerm ks g (Application c.in-Op.f (trees (map tree_of ts))) = subst (IsTerm ks g) (ap tree_of c.in-Op.is ∙ op_tree c.in-Op.f c.in-Op.terms) c.requires.1 in
    (omega (arith, fewer, now), (ks, subst (λ (x : Term). IsTerm ks g (tree_of x)) (sym c.index.ensures) (term_among ks g ts c.loop-i.i c.index.result.now l is.2)))

pub returns-after-loop-i-clause-polynomial : goal.returns-after-loop-i-clause-polynomial
returns-after-loop-i-clause-polynomial t c =
    let ts = c.in-Op.terms.items in
    let whole = take_all c.loop-i.i ts (let m = c.loop-i-test.false in let n = c.len-i-end.ensures in omega (arith, m, n)) in
    op_poly c.args.k c.in-Op.f c.loop-i.polys ∙ ap (λ z. Application c.in-Op.f (trees z)) (c.loop-i.invariant.trees ∙ ap (map tree_of) whole) ∙ sym (ap tree_of c.in-Op.is ∙ op_tree c.in-Op.f c.in-Op.terms)

pub returns-after-loop-i-clause-variables : goal.returns-after-loop-i-clause-variables
returns-after-loop-i-clause-variables t c =
    let all = op_variables c.in-Op.f c.loop-i.polys in
    let most = greatest_most c.args.k c.loop-i.polys.items c.loop-i.invariant.variables in
    omega (arith, all, most)
