use Rattle.std.proofs.Common.{◌≡◌, ℕ, ◌+◌, ◌*◌, ◌<◌, ◌^◌, List, arith, sym, ap, ◌∙◌, subst, get_or, length}
use Rattle.std.specs.List.{AllByRecursion}
use Rattle.ua_table.specs.declared.limits.TheConstants.{VALUES}
use Rattle.ua_table.specs.Algebras.{Operation}
use Rattle.ua_table.specs.Tables.{IsTable}
use Rattle.ua_table.proofs.Digits.{digit_more, numeral_more}
use Rattle.ua_lanes.proofs.lines.number_of.Goals as goal

-- the step at one more argument: the number is below its power, and within a table
more : (o : Operation) (m i : ℕ) (args : List ℕ) → IsTable o → length args ≡ o.arity → AllByRecursion (λ x. x < o.size) args → i < length args → m < o.size ^ i
    → (m * o.size + get_or args i 0 < o.size ^ (i + 1)) × (m * o.size + get_or args i 0 < VALUES)
more o m i args t arity below h b =
    let d = digit_more o.size m i args below h b in
    let all : o.size ^ length args ≡ length o.values = ap (λ k. o.size ^ k) arity ∙ sym t.operation.total in
    (d.0, omega (arith, d.1, all, t.values))

pub overflow_mul-number : goal.overflow_mul-number
overflow_mul-number c =
    let m =
    more c.args.table.now c.loop-x.number c.loop-x.x-index c.args.args.now c.size-size.ensures.table c.requires.arity c.requires.below
    c.loop-x-test.true (subst (λ n. c.loop-x.number < n ^ c.loop-x.x-index) c.size-size.ensures.size c.loop-x.invariant.below) in
    let e = ap (λ n. c.loop-x.number * n) c.size-size.ensures.size in
    omega (arith, m.1, e)

pub overflow_add-number : goal.overflow_add-number
overflow_add-number c =
    let m =
    more c.args.table.now c.loop-x.number c.loop-x.x-index c.args.args.now c.size-size.ensures.table c.requires.arity c.requires.below
    c.loop-x-test.true (subst (λ n. c.loop-x.number < n ^ c.loop-x.x-index) c.size-size.ensures.size c.loop-x.invariant.below) in
    let e = ap (λ n. c.loop-x.number * n) c.size-size.ensures.size in
    omega (arith, m.1, e)

pub loop-x-preserved : goal.loop-x-preserved
loop-x-preserved c =
    let m =
    more c.args.table.now c.loop-x.number c.loop-x.x-index c.args.args.now c.size-size.ensures.table c.requires.arity c.requires.below
    c.loop-x-test.true (subst (λ n. c.loop-x.number < n ^ c.loop-x.x-index) c.size-size.ensures.size c.loop-x.invariant.below) in
    record {
      number = ap (λ k. k * c.size-size.result + get_or c.args.args.now c.loop-x.x-index 0) c.loop-x.invariant.number ∙ sym (numeral_more c.size-size.result c.loop-x.x-index c.args.args.now c.loop-x-test.true);
      below = subst (λ n. c.loop-x.number * n + get_or c.args.args.now c.loop-x.x-index 0 < n ^ (c.loop-x.x-index + 1)) (sym c.size-size.ensures.size) m.0;
    }
