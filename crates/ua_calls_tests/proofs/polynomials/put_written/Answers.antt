use Rattle.std.proofs.Common.{arith, subst, Ok}
use Rattle.ua_close.specs.declared.memberships.Answer.{Answer}
use Rattle.ua_clone.specs.Points.{points_of}
use Rattle.ua_clone.specs.Permitted.{MayClone}
use Rattle.ua_calls_tests.proofs.polynomials.put_written.Goals as goal

pub to_poly-requires-clause-elements : goal.to_poly-requires-clause-elements
to_poly-requires-clause-elements g c =
    let a = c.args.a.now in
    let k = c.args.k in
    let kind = c.args.kind in
    let ps = points_of a.size k c.args.points.now in
    let run = c.args.run.now in
    let may = subst (λ (x : Answer). MayClone a k kind ps run.budget run.workers (Ok x)) c.in-Ok-Yes.field-0-is c.in-Ok-Yes.ensures.permitted in
    let generators = may.1.generators in
    let few = c.polynomials.ensures.few kind a.size in
    let small = c.size-size.ensures.algebra.small in
    omega (arith, generators, few, small)
