use Rattle.std.proofs.Common.{List, replicate, subst, sym}
use Rattle.std.specs.Prelude.{Ok}
use Rattle.std.specs.List.{AllByRecursion}
use Rattle.ua_table.specs.Algebras.{Vector, Product, IsVector}
use Rattle.ua_close.specs.declared.close.Closure.{Closure}
use Rattle.ua_close.specs.Permitted.{MayClose}
use Rattle.ua_type.specs.Types.{square_generators}
use Rattle.ua_type.proofs.SquareLaws.{square_vectors, squares_exceed, squares_closed}
use Rattle.ua_type.proofs.squares.type_of_subtrace.Goals as goal

pub close_set-requires-after_bounds : goal.close_set-requires-after_bounds
close_set-requires-after_bounds g c _ _ =
    let b = c.args.b.now in
    subst (λ (p : Product). AllByRecursion (IsVector p) c.in_ok-gens.gens.items) (sym c.in-Ok.ensures.ok)
    (subst (AllByRecursion (IsVector (replicate 4 b))) (sym c.in_ok-gens.ensures) (square_vectors b c.args.pair.low c.args.pair.high c.requires.first c.requires.second))

pub returns-in-Exceeds : goal.returns-in-Exceeds
returns-in-Exceeds g c =
    let b = c.args.b.now in
    let p = replicate 4 b in
    let gens = square_generators b c.args.pair.low c.args.pair.high in
    let budget = c.args.run.now.budget in
    let w = c.args.run.now.workers in
    let told =
    subst (λ (q : Product). MayClose q gens budget w (Ok c.in_ok-close_set.field-0)) c.in-Ok.ensures.ok
    (subst (λ (gs : List Vector). MayClose c.in-Ok.frame gs budget w (Ok c.in_ok-close_set.field-0)) c.in_ok-gens.ensures
    c.in_ok-close_set.ensures.permitted) in
    squares_exceed b budget w c.args.pair.low c.args.pair.high c.in-Exceeds.field-0 (subst (λ (closure : Closure). MayClose p gens budget w (Ok closure)) c.in-Exceeds.is told)

pub returns : goal.returns
returns g c =
    let b = c.args.b.now in
    let p = replicate 4 b in
    let gens = square_generators b c.args.pair.low c.args.pair.high in
    let budget = c.args.run.now.budget in
    let w = c.args.run.now.workers in
    let told =
    subst (λ (q : Product). MayClose q gens budget w (Ok c.in_ok-close_set.field-0)) c.in-Ok.ensures.ok
    (subst (λ (gs : List Vector). MayClose c.in-Ok.frame gs budget w (Ok c.in_ok-close_set.field-0)) c.in_ok-gens.ensures
    c.in_ok-close_set.ensures.permitted) in
    squares_closed b budget w c.args.pair.low c.args.pair.high c.in-Closed.list c.type_by.result (subst (λ (closure : Closure). MayClose p gens budget w (Ok closure)) c.in-Closed.is told) c.type_by.ensures
