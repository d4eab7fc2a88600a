use Rattle.std.proofs.Common.{length, ap, refl, arith}
use Rattle.std.proofs.lemmas.List.{length-map}
use Rattle.ua_table.specs.Algebras.{Operation}
use Rattle.ua_sub.proofs.FlawLaws.{hom_without}
use Rattle.ua_sub.proofs.flaws.is_hom.Goals as goal

pub returns-clause-ok : goal.returns-clause-ok
returns-clause-ok c =
    let all = ap length c.ops.ensures.operations in
    (λ _. hom_without c.args.a.now c.args.b.now c.args.images.now (λ f w. c.loop-op.invariant f (let n = length-map c.args.a.now.operations (λ (o : Operation). o.arity) in omega (arith, w, n, all, c.loop-op-test.false))), λ _. refl)
