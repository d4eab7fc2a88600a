use Rattle.std.proofs.Common.{◌≡◌, ◌+◌, length, replicate, sym, ◌∙◌, subst, arith}
use Rattle.std.specs.Prelude.{IfErr, IfOk}
use Rattle.ua_table.specs.Algebras.{Product}
use Rattle.ua_close.specs.Answers.{IsCause}
use Rattle.ua_clone.specs.Points.{points_of}
use Rattle.ua_clone.specs.Frames.{point_generators}
use Rattle.ua_clone.proofs.PointLaws.{some_points}
use Rattle.ua_clone.proofs.PolynomialLaws.{generator_count}
use Rattle.ua_clone.proofs.frames.power.Goals as goal

pub power_within-requires-clause-some : goal.power_within-requires-clause-some
power_within-requires-clause-some c =
    let a = c.args.a.now in
    let width = c.len.ensures a.size c.args.k c.requires.points in
    let some = some_points a.size c.args.k c.args.points.now c.size-size.ensures.algebra.algebra.inhabited c.requires.points in
    omega (arith, width, some)

pub returns-clause-frame : goal.returns-clause-frame
returns-clause-frame c =
    let a = c.args.a.now in
    let width = c.len.ensures a.size c.args.k c.requires.points in
    subst (λ n. IfOk c.power_within.result (λ (p : Product). p ≡ replicate n a)) width c.power_within.ensures.frame

pub returns-clause-cause : goal.returns-clause-cause
returns-clause-cause c =
    let a = c.args.a.now in
    let ps = points_of a.size c.args.k c.args.points.now in
    let gens = point_generators a c.args.k c.args.kind ps in
    let width = c.len.ensures a.size c.args.k c.requires.points in
    let count : length gens ≡ c.from.result + c.elements.result = generator_count a c.args.k c.args.kind ps ∙ (λ i. sym c.from.ensures i + sym c.elements.ensures.elements i) in
    subst (λ n. IfErr c.power_within.result (IsCause (replicate n a) gens c.args.budget)) width (c.power_within.ensures.cause gens count)
