use Rattle.std.proofs.Common.{◌≡◌, ◌<◌, false, refl, sym, ◌∙◌, ap, subst, length, arith}
use Rattle.std.specs.List.{AllByRecursion}
use Rattle.ua_table.specs.declared.limits.TheConstants.{SIZE, WIDTH}
use Rattle.ua_table.specs.Refusals.{is_outside}
use Rattle.ua_table.specs.Algebras.{power}
use Rattle.ua_flaws.specs.declared.flaws.Flaw.TheVariants as flaw
use Rattle.ua_flaws.specs.Shapes.{IsOver}
use Rattle.ua_flaws.proofs.FirstLaws.{refusal_none}
use Rattle.ua_flaws.proofs.ShapeLaws.{all_elements, wide}
use Rattle.ua_flaws.proofs.members.not_member_flaws.Goals as goal

pub list_of-requires-clause-vectors : goal.list_of-requires-clause-vectors
list_of-requires-clause-vectors c =
    all_elements c.size-size.result c.args.width c.args.gens.now (let s = c.size-size.ensures.size in let l = c.size-size.ensures.algebra.small in omega arith) (c.in_ok-vectors.ensures.vectors refl)

pub elements-requires : goal.elements-requires
elements-requires c =
    let over = all_elements c.size-size.result c.args.width c.from_ref.result.now (let s = c.size-size.ensures.size in let l = c.size-size.ensures.algebra.small in omega arith) (c.in_ok-vectors-3.ensures.vectors refl) in
    subst (AllByRecursion (λ x. x < SIZE)) (sym c.as_slice.ensures)
    ((subst (AllByRecursion (IsOver SIZE c.args.width)) c.from_ref.ensures.value over).0.elements)

pub outside-requires-clause-some : goal.outside-requires-clause-some
outside-requires-clause-some c =
    let inside : is_outside c.args.width WIDTH ≡ false = refusal_none (is_outside c.args.width WIDTH) flaw.Width (sym c.in_ok-frame.ensures.flaw) in
    let some = wide c.args.width inside in let e = c.in_ok-gens.ensures.width in omega (arith, some, e)

pub outside-requires-clause-frame : goal.outside-requires-clause-frame
outside-requires-clause-frame c = c.in_ok-frame.ensures.frame ∙ ap (power c.args.a.now) (sym c.in_ok-gens.ensures.width)

pub outside-requires-clause-rows : goal.outside-requires-clause-rows
outside-requires-clause-rows c =
    subst (λ n. AllByRecursion (IsOver n c.in_ok-gens.gens.width) c.args.rows.now) c.size-size.ensures.size
    (subst (λ n. AllByRecursion (IsOver c.size-size.result n) c.args.rows.now) (sym c.in_ok-gens.ensures.width) (c.in_ok-vectors-2.ensures.vectors refl))

pub outside-requires-clause-target : goal.outside-requires-clause-target
outside-requires-clause-target c =
    let over = subst (AllByRecursion (IsOver c.size-size.result c.args.width)) c.from_ref.ensures.value (c.in_ok-vectors-3.ensures.vectors refl) in
    ap length (c.as_slice-2.ensures.value ∙ c.in_ok-target.ensures ∙ c.as_slice.ensures) ∙ over.0.count ∙ sym c.in_ok-gens.ensures.width
