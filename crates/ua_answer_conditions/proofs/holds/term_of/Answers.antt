use Rattle.std.proofs.Common.{sym, ap, subst}
use Rattle.ua_table.specs.declared.limits.TheConstants.{VARIABLES}
use Rattle.ua_table.specs.Algebras.{FiniteAlgebra, arities_of}
use Rattle.ua_table.specs.Terms.{IsTerm}
use Rattle.ua_term.specs.Meanings.{first_place}
use Rattle.ua_term.specs.Trees.{tree_of}
use Rattle.ua_term.proofs.MeantTerms.{meant_term}
use Rattle.ua_answer_conditions.proofs.holds.term_of.Goals as goal

pub returns-in-Ok-clause-term : goal.returns-in-Ok-clause-term
returns-in-Ok-clause-term c =
    let t = tree_of c.in-Ok.term in
    let term = meant_term c.algebra.result.now VARIABLES c.args.term.now t c.in-Ok.ensures.resolved (ap first_place (sym c.requires.range)) in
    subst (λ (a : FiniteAlgebra). IsTerm (arities_of a) VARIABLES t) c.algebra.ensures term
