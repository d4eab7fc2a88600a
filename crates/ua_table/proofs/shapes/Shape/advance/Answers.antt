use Rattle.std.proofs.Common.{ℕ, sym, ap, arith}
use Rattle.ua_table.proofs.SliceLaws.{first_high, bound_small, mark_part, mark_rises, mark_next, mark_low, next_low}
use Rattle.ua_table.proofs.shapes.Shape.advance.Goals as goal

pub loop-mark-init : goal.loop-mark-init
loop-mark-init c = record { mark = c.requires.mark; earlier = c.requires.earlier }

pub next_unit-parts-requires-clause-low : goal.next_unit-parts-requires-clause-low
next_unit-parts-requires-clause-low c = (mark_low c.args.self.now c.args.rows c.args.s c.loop-mark.mark c.requires.low c.requires.below c.loop-mark.invariant.mark c.loop-mark.invariant.earlier).row

pub next_unit-parts-requires-clause-in_range : goal.next_unit-parts-requires-clause-in_range
next_unit-parts-requires-clause-in_range c = (mark_low c.args.self.now c.args.rows c.args.s c.loop-mark.mark c.requires.low c.requires.below c.loop-mark.invariant.mark c.loop-mark.invariant.earlier).operation

pub next_unit-parts-requires-clause-within : goal.next_unit-parts-requires-clause-within
next_unit-parts-requires-clause-within c = (mark_low c.args.self.now c.args.rows c.args.s c.loop-mark.mark c.requires.low c.requires.below c.loop-mark.invariant.mark c.loop-mark.invariant.earlier).place

pub overflow_add-mark : goal.overflow_add-mark
overflow_add-mark c =
    let i = c.loop-mark.invariant in
    let first = i.mark.first in
    let earlier = i.earlier in
    let high = first_high c.args.self.now c.loop-mark.mark.unit in
    let rises = mark_rises c.args.self.now c.args.rows c.args.s c.loop-mark.mark c.requires.below i.mark in
    let more = c.loop-mark-test.true in
    omega (arith, first, high, rises, more)

pub slices_at-requires-clause-low : goal.slices_at-requires-clause-low
slices_at-requires-clause-low c = (next_low c.args.self.now c.args.rows c.args.s c.loop-mark.mark c.next_unit-parts.result c.requires.low c.requires.below c.loop-mark.invariant.mark c.loop-mark-test.true c.next_unit-parts.ensures.next).row

pub slices_at-requires-clause-in_range : goal.slices_at-requires-clause-in_range
slices_at-requires-clause-in_range c =
    (next_low c.args.self.now c.args.rows c.args.s c.loop-mark.mark c.next_unit-parts.result c.requires.low c.requires.below
    c.loop-mark.invariant.mark c.loop-mark-test.true c.next_unit-parts.ensures.next).operation

pub slices_at-requires-clause-within : goal.slices_at-requires-clause-within
slices_at-requires-clause-within c =
    (next_low c.args.self.now c.args.rows c.args.s c.loop-mark.mark c.next_unit-parts.result c.requires.low c.requires.below
    c.loop-mark.invariant.mark c.loop-mark-test.true c.next_unit-parts.ensures.next).place

pub overflow_add-mark-in-loop-mark : goal.overflow_add-mark-in-loop-mark
overflow_add-mark-in-loop-mark c =
    let small = bound_small c.args.self.now c.args.rows c.next_unit-parts.ensures.shape c.requires.low c.requires.fits in
    let below = c.requires.below in
    let more = c.loop-mark-test.true in
    let few = c.slices_at.ensures.small in
    omega (arith, small, below, more, few)

pub loop-mark-smaller : goal.loop-mark-smaller
loop-mark-smaller c =
    let rises = mark_rises c.args.self.now c.args.rows c.args.s c.loop-mark.mark c.requires.below c.loop-mark.invariant.mark in
    let more = c.loop-mark-test.true in
    omega (arith, rises, more)

pub loop-mark-preserved : goal.loop-mark-preserved
loop-mark-preserved c = record {
  mark = mark_next c.args.self.now c.args.rows c.args.s c.loop-mark.mark c.slices_at.result c.next_unit-parts.result c.requires.below c.loop-mark.invariant.mark c.next_unit-parts.ensures.next c.slices_at.ensures.slices;
  earlier = c.loop-mark-test.true;
}

pub returns-clause-own : goal.returns-clause-own
returns-clause-own c = sym (ap (λ (q : ℕ × ℕ). q.0) (mark_part c.args.self.now c.args.rows c.args.s c.loop-mark.mark c.requires.below c.loop-mark.invariant.mark c.loop-mark.invariant.earlier c.loop-mark-test.false))

pub returns-clause-part : goal.returns-clause-part
returns-clause-part c = mark_part c.args.self.now c.args.rows c.args.s c.loop-mark.mark c.requires.below c.loop-mark.invariant.mark c.loop-mark.invariant.earlier c.loop-mark-test.false
