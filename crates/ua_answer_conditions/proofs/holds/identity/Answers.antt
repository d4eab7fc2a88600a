use Rattle.std.proofs.Common.{sym, subst}
use Rattle.ua_table.specs.declared.limits.TheConstants.{VARIABLES}
use Rattle.ua_table.specs.Algebras.{FiniteAlgebra, arities_of}
use Rattle.ua_table.specs.Terms.{IsTerm}
use Rattle.ua_term.specs.Trees.{tree_of}
use Rattle.ua_answer_conditions.proofs.holds.identity.Goals as goal

pub holds-requires-clause-left : goal.holds-requires-clause-left
holds-requires-clause-left c = subst (λ (a : FiniteAlgebra). IsTerm (arities_of a) VARIABLES (tree_of c.in_ok-left.left)) (sym c.algebra.ensures) c.in_ok-left.ensures.term

pub holds-requires-clause-right : goal.holds-requires-clause-right
holds-requires-clause-right c = subst (λ (a : FiniteAlgebra). IsTerm (arities_of a) VARIABLES (tree_of c.in_ok-right.right)) (sym c.algebra.ensures) c.in_ok-right.ensures.term
