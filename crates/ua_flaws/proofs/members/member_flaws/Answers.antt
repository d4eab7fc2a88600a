use Rattle.std.proofs.Common.{◌≡◌, false, refl, sym, subst, ◌<◌, arith}
use Rattle.std.specs.List.{AllByRecursion}
use Rattle.ua_table.specs.declared.limits.TheConstants.{SIZE, WIDTH}
use Rattle.ua_table.specs.Refusals.{is_outside}
use Rattle.ua_flaws.specs.declared.flaws.Flaw.TheVariants as flaw
use Rattle.ua_flaws.specs.Shapes.{IsOver}
use Rattle.ua_flaws.proofs.FirstLaws.{refusal_none}
use Rattle.ua_flaws.proofs.ShapeLaws.{all_elements, steps_over, vectors_over}
use Rattle.ua_flaws.proofs.members.member_flaws.Goals as goal

pub last_value-requires-clause-steps : goal.last_value-requires-clause-steps
last_value-requires-clause-steps c =
    let inside : is_outside c.args.width WIDTH ≡ false = refusal_none (is_outside c.args.width WIDTH) flaw.Width (sym c.in_ok-frame.ensures.flaw) in
    steps_over c.args.a.now c.in_ok-frame.frame c.args.width c.args.gens.now c.in_ok-list.list.items c.args.steps.now c.in_ok-origins.origins.items
    c.in_ok-frame.ensures.frame inside c.in_ok-list.ensures.items c.in_ok-origins.ensures.read c.in_ok-origins.ensures.told

pub last_value-requires-clause-gens : goal.last_value-requires-clause-gens
last_value-requires-clause-gens c =
    vectors_over c.args.a.now c.in_ok-frame.frame c.size-size.result c.args.width c.args.gens.now c.in_ok-list.list.items c.in_ok-frame.ensures.frame c.size-size.ensures.size c.in_ok-list.ensures.items (c.in_ok-vectors.ensures.vectors refl)

pub elements-requires : goal.elements-requires
elements-requires c =
    let over = all_elements c.size-size.result c.args.width c.from_ref.result.now (let s = c.size-size.ensures.size in let l = c.size-size.ensures.algebra.small in omega arith) (c.in_ok-vectors-2.ensures.vectors refl) in
    subst (AllByRecursion (λ x. x < SIZE)) (sym c.as_slice.ensures)
    ((subst (AllByRecursion (IsOver SIZE c.args.width)) c.from_ref.ensures.value over).0.elements)
