use Rattle.std.proofs.Common.{replicate, subst, sym}
use Rattle.std.specs.List.{AllByRecursion}
use Rattle.ua_table.specs.Algebras.{Product, IsVector}
use Rattle.ua_work.specs.Goals.{IsGoal}
use Rattle.ua_type.proofs.PairLaws.{pair_vectors}
use Rattle.ua_type.proofs.pairs.sought.Goals as goal

pub reach-requires-clause-admitted : goal.reach-requires-clause-admitted
reach-requires-clause-admitted g c _ _ =
    let b = c.args.b.now in
    subst (λ (p : Product). AllByRecursion (IsVector p) c.in_ok-gens.gens.items) (sym c.in-Ok.ensures.ok)
    (subst (AllByRecursion (IsVector (replicate 2 b))) (sym c.in_ok-gens.ensures) (pair_vectors b c.args.x c.args.y c.requires.first c.requires.second))

pub reach-requires-clause-goal : goal.reach-requires-clause-goal
reach-requires-clause-goal g c _ _ = subst (λ (p : Product). IsGoal p c.args.goal.now) (sym c.in-Ok.ensures.ok) c.requires.goal
