use Rattle.std.proofs.Common.{replicate, subst, sym}
use Rattle.std.specs.List.{AllByRecursion}
use Rattle.ua_table.specs.Algebras.{Product, IsVector}
use Rattle.ua_type.proofs.PairLaws.{pair_vectors}
use Rattle.ua_type.proofs.pairs.generated.Goals as goal

pub close_set-requires-after_bounds : goal.close_set-requires-after_bounds
close_set-requires-after_bounds g c _ _ =
    let b = c.args.b.now in
    subst (λ (p : Product). AllByRecursion (IsVector p) c.in_ok-gens.gens.items) (sym c.in-Ok.ensures.ok)
    (subst (AllByRecursion (IsVector (replicate 2 b))) (sym c.in_ok-gens.ensures) (pair_vectors b c.args.x c.args.y c.requires.first c.requires.second))
