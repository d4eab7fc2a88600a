use Rattle.std.proofs.Common.{length, ℕ, sym, ap, ◌∙◌, subst}
use Rattle.std.proofs.lemmas.List.{length-map}
use Rattle.ua_table.specs.Algebras.{arities_of}
use Rattle.ua_table.specs.Terms.{IsTerm}
use Rattle.ua_term.specs.Meanings.{first_place}
use Rattle.ua_term.specs.Trees.{tree_of}
use Rattle.ua_term.proofs.MeantTerms.{meant_term}
use Rattle.ua_reply.specs.Operands.{value_of}
use Rattle.ua_answer_algebras.proofs.eval.value.Goals as goal

pub eval-requires-clause-term : goal.eval-requires-clause-term
eval-requires-clause-term c =
    let a = c.algebra-algebra.result.now in
    let entries = c.args.args.now.values in
    let given = ap (length {A = ℕ}) (c.deref.ensures.value ∙ c.in_ok-args.ensures.values) ∙ length-map entries (value_of c.args.known.now) in
    let term = meant_term a (length entries) c.args.term.now (tree_of c.in-Ok.term) c.in-Ok.ensures.resolved (ap first_place (sym c.requires.term.range)) in
    subst (λ n. IsTerm (arities_of a) n (tree_of c.in-Ok.term)) (sym given) term
