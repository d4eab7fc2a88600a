use Rattle.std.proofs.Common.{◌≡◌, ◌≤◌, length, sym, subst, arith}
use Rattle.std.specs.List.{AllByRecursion}
use Rattle.ua_table.proofs.Lists.{all_weaker}
use Rattle.ua_identity.specs.Identities.{VariablePattern}
use Rattle.ua_identity.specs.Patterns.{patterns_of}
use Rattle.ua_identity.proofs.ConditionLaws.{patterns_in, fill_places}
use Rattle.ua_identity.proofs.conditions.Condition.argument_vectors.Goals as goal

pub place_vectors-requires-clause-places : goal.place_vectors-requires-clause-places
place_vectors-requires-clause-places c =
    let same = c.arity.ensures.arity in
    let P = λ (p : VariablePattern). c.arity.result ≤ length p.places in
    subst (λ is. AllByRecursion P (patterns_in is)) (sym c.identities.ensures.identities)
    (all_weaker (λ (p : VariablePattern). length p.places ≡ c.args.self.now.arity) P (λ p e. omega (arith, e, same)) (patterns_of c.args.self.now) (fill_places c.args.self.now c.identities.ensures.condition))
