use Rattle.std.proofs.Common.{◌+◌, ◌^◌, Option, subst, arith}
use Rattle.std.specs.Prelude.{IfSome}
use Rattle.ua_table.specs.Terms.{IsTerm}
use Rattle.ua_term.specs.declared.terms.Term.{Term}
use Rattle.ua_term.specs.Trees.{tree_of}
use Rattle.ua_clone.proofs.PolynomialLaws.{term_wider}
use Rattle.ua_clone.proofs.polynomials.to_poly.Goals as goal

pub poly_of-requires : goal.poly_of-requires
poly_of-requires c =
    let s = c.args.steps.now in
    let is : IsTerm s.arities s.gens (tree_of c.in-Some.term) = subst (λ (o : Option Term). IfSome o (λ (t : Term). IsTerm s.arities s.gens (tree_of t))) c.in-Some.is c.in_ok-term.ensures.term in
    let few = c.requires.elements in
    let k = c.from.ensures in
    (s.arities, term_wider s.arities s.gens (c.from.result + 2 ^ 16) (tree_of c.in-Some.term) (omega (arith, few, k)) is)
