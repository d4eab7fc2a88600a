use Rattle.std.proofs.Common.{◌≡◌, List, ◌∙◌, sym, subst, Ok}
use Rattle.std.specs.List.{AllByRecursion}
use Rattle.ua_table.specs.Algebras.{Vector, Product, IsVector}
use Rattle.ua_close.specs.declared.memberships.Answer.TheVariants.{Yes, No, Exceeds}
use Rattle.ua_close.specs.Permitted.{MayMember}
use Rattle.ua_clone.specs.Points.{points_of}
use Rattle.ua_clone.specs.Frames.{point_power, point_generators, wanted_values}
use Rattle.ua_clone.proofs.PointLaws.{are_points, some_points}
use Rattle.ua_clone.proofs.PolynomialLaws.{generators_admitted, wanted_admitted}
use Rattle.ua_clone.proofs.CloneLaws.{steps_write, none_agrees}
use Rattle.ua_clone.proofs.clones.clone_member.Goals as goal

pub member-requires-clause-admitted : goal.member-requires-clause-admitted
member-requires-clause-admitted g c =
    let a = c.args.a.now in
    let k = c.args.k in
    let ps = points_of a.size k c.args.points.now in
    let points = are_points a.size k c.args.points.now c.requires in
    λ _ _. subst (λ (q : Product × List Vector). AllByRecursion (IsVector q.0) q.1) (λ i. (sym c.in_ok-frame.ensures.frame i, sym c.in_ok-gens.ensures i)) (generators_admitted a k c.args.kind ps points)

pub member-requires-clause-target : goal.member-requires-clause-target
member-requires-clause-target g c =
    let a = c.args.a.now in
    let k = c.args.k in
    let ps = points_of a.size k c.args.points.now in
    let points = are_points a.size k c.args.points.now c.requires in
    let value : c.as_slice.result.now ≡ wanted_values ps = c.as_slice.ensures.value ∙ c.in_ok-values.ensures a.size c.requires in
    λ _ _. subst (λ (q : Product × Vector). IsVector q.0 q.1) (λ i. (sym c.in_ok-frame.ensures.frame i, sym value i)) (wanted_admitted a k c.args.kind ps points)

pub returns-in-Yes : goal.returns-in-Yes
returns-in-Yes g c =
    let a = c.args.a.now in
    let k = c.args.k in
    let kind = c.args.kind in
    let ps = points_of a.size k c.args.points.now in
    let points = are_points a.size k c.args.points.now c.requires in
    let some = some_points a.size k c.args.points.now c.size-size.ensures.algebra.algebra.inhabited c.requires in
    let value : c.as_slice.result.now ≡ wanted_values ps = c.as_slice.ensures.value ∙ c.in_ok-values.ensures a.size c.requires in
    let may : MayMember (point_power a ps) (point_generators a k kind ps) (wanted_values ps) c.args.run.now.budget c.args.run.now.workers (Ok (Yes c.in-Yes.steps)) =
    subst (λ (X : Type 0). X) (λ i. MayMember (c.in_ok-frame.ensures.frame i) (c.in_ok-gens.ensures i) (value i) c.args.run.now.budget c.args.run.now.workers (Ok (c.in-Yes.is i))) c.in_ok-steps.ensures.permitted in
    record { permitted = (may, steps_write a k kind ps c.in-Yes.steps some points may.1) }

pub returns-in-No : goal.returns-in-No
returns-in-No g c =
    let a = c.args.a.now in
    let k = c.args.k in
    let kind = c.args.kind in
    let ps = points_of a.size k c.args.points.now in
    let points = are_points a.size k c.args.points.now c.requires in
    let some = some_points a.size k c.args.points.now c.size-size.ensures.algebra.algebra.inhabited c.requires in
    let value : c.as_slice.result.now ≡ wanted_values ps = c.as_slice.ensures.value ∙ c.in_ok-values.ensures a.size c.requires in
    let may : MayMember (point_power a ps) (point_generators a k kind ps) (wanted_values ps) c.args.run.now.budget c.args.run.now.workers (Ok (No c.in-No.list)) =
    subst (λ (X : Type 0). X) (λ i. MayMember (c.in_ok-frame.ensures.frame i) (c.in_ok-gens.ensures i) (value i) c.args.run.now.budget c.args.run.now.workers (Ok (c.in-No.is i))) c.in_ok-steps.ensures.permitted in
    record { permitted = (may, none_agrees a k kind ps c.args.run.now.budget c.args.run.now.workers c.in-No.list some points may) }

pub returns : goal.returns
returns g c =
    let a = c.args.a.now in
    let k = c.args.k in
    let kind = c.args.kind in
    let ps = points_of a.size k c.args.points.now in
    let value : c.as_slice.result.now ≡ wanted_values ps = c.as_slice.ensures.value ∙ c.in_ok-values.ensures a.size c.requires in
    let may : MayMember (point_power a ps) (point_generators a k kind ps) (wanted_values ps) c.args.run.now.budget c.args.run.now.workers (Ok (Exceeds c.in-Exceeds.list)) =
    subst (λ (X : Type 0). X) (λ i. MayMember (c.in_ok-frame.ensures.frame i) (c.in_ok-gens.ensures i) (value i) c.args.run.now.budget c.args.run.now.workers (Ok (c.in-Exceeds.is i))) c.in_ok-steps.ensures.permitted in
    record { permitted = (may, tt) }
