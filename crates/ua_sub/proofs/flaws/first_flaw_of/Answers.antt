use Rattle.std.proofs.Common.{◌≡◌, ◌+◌, ◌^◌, ◌<◌, ℕ, List, ◌++◌, length, take, drop, ap, sym, ◌∙◌, subst, arith}
use Rattle.std.specs.Prelude.{slice_index}
use Rattle.std.specs.List.{AllByRecursion}
use Rattle.std.proofs.lemmas.List.{take_at, drop_at}
use Rattle.std.proofs.lemmas.List.Elements.{All-from_recursion}
use Rattle.ua_table.specs.Algebras.{numeral}
use Rattle.ua_prod.proofs.ClashLaws.{arity_is, size_is}
use Rattle.ua_sub.proofs.FlawLaws.{arities_same, tuple_first, tuple_more, first_here, goes_here, none_at_end}
use Rattle.ua_sub.proofs.flaws.first_flaw_of.Goals as goal

pub loop-value-init : goal.loop-value-init
loop-value-init c =
    let a = c.args.a.now in
    let arity = arity_is a c.args.op c.op-table.result.now c.op-table.ensures.operation in
    tuple_first a c.args.b.now c.args.images.now c.args.op c.from-count.result c.op-table.ensures.algebra.algebra.inhabited
    (omega (arith, c.from-count.ensures, c.arity.ensures.arity, c.arity.ensures.table.arity))
    (omega (arith, arity, c.from-count.ensures, c.arity.ensures.arity))

pub bounds-images-from : goal.bounds-images-from
bounds-images-from c =
    let o = c.op-table.result.now in
    let within : c.loop-value.value-index < length o.values = omega (arith, c.loop-value-test.true, ap length c.values-value-items.ensures.values) in
    let value = All-from_recursion (λ v. v < o.size) o.values c.values-value-items.ensures.table.operation.below c.loop-value.value-index 0 within in
    let same = ap (λ vs. slice_index vs c.loop-value.value-index) c.values-value-items.ensures.values in
    omega (arith, value, same, c.from.ensures, c.requires.count, size_is c.args.a.now c.args.op o c.op-table.ensures.algebra.algebra c.op-table.ensures.operation)

pub value_at_images-requires-clause-count : goal.value_at_images-requires-clause-count
value_at_images-requires-clause-count c =
    let a = c.args.a.now in
    let b = c.args.b.now in
    let same = arities_same a b c.op-table.ensures.algebra.algebra c.op-other.ensures.algebra.algebra c.requires.similar in
    c.loop-value.invariant.long ∙ sym c.loop-value.invariant.arity ∙ ap (λ ks. slice_index ks c.args.op) (sym same) ∙ arity_is b c.args.op c.op-other.result.now c.op-other.ensures.operation

pub value_at_images-requires-clause-below : goal.value_at_images-requires-clause-below
value_at_images-requires-clause-below c = subst (λ n. AllByRecursion (λ x. x < n) (take c.from-count.result c.loop-value.args)) (sym c.requires.count) c.loop-value.invariant.below

pub value_at_images-requires-clause-images : goal.value_at_images-requires-clause-images
value_at_images-requires-clause-images c =
    subst (λ n. AllByRecursion (λ x. x < n) c.args.images.now)
    (sym (size_is c.args.b.now c.args.op c.op-other.result.now c.op-other.ensures.algebra.algebra c.op-other.ensures.operation)) c.requires.below

pub returns-then-images-from-clause-some : goal.returns-then-images-from-clause-some
returns-then-images-from-clause-some c =
    let a = c.args.a.now in
    let b = c.args.b.now in
    let o = c.op-table.result.now in
    let alg = c.op-table.ensures.algebra in
    let stands = c.op-table.ensures.operation in
    let table = c.arity.ensures.table in
    let within : c.loop-value.value-index < length o.values = omega (arith, c.loop-value-test.true, ap length c.values-value-items.ensures.values) in
    let same = ap (λ vs. slice_index vs c.loop-value.value-index) c.values-value-items.ensures.values in
    let goes =
    goes_here a b c.args.images.now c.args.op c.from-count.result o alg.algebra stands table c.loop-value.value-index c.loop-value.args
    c.loop-value.invariant within c.op-other.result.now c.op-other.ensures.algebra.algebra c.op-other.ensures.operation c.from.result
    c.value_at_images.result (c.from.ensures ∙ same) c.value_at_images.ensures in
    first_here a b c.args.images.now c.args.op c.from-count.result o alg.algebra stands table c.loop-value.value-index c.loop-value.args c.loop-value.invariant within (λ h. c.if-images-from.true (goes.0 h))

pub next_tuple-requires-clause-below : goal.next_tuple-requires-clause-below
next_tuple-requires-clause-below c =
    let same = c.size.ensures.size ∙ size_is c.args.a.now c.args.op c.op-table.result.now c.op-table.ensures.algebra.algebra c.op-table.ensures.operation in
    subst (λ n. AllByRecursion (λ x. x < n) (take c.from-count.result c.loop-value.args)) (sym same) c.loop-value.invariant.below

pub loop-value-preserved : goal.loop-value-preserved
loop-value-preserved c =
    let a = c.args.a.now in
    let b = c.args.b.now in
    let o = c.op-table.result.now in
    let alg = c.op-table.ensures.algebra in
    let stands = c.op-table.ensures.operation in
    let table = c.arity.ensures.table in
    let k = c.from-count.result in
    let old = take c.from-count.result c.loop-value.args in
    let new = c.next_tuple.new.xs in
    let within : c.loop-value.value-index < length o.values = omega (arith, c.loop-value-test.true, ap length c.values-value-items.ensures.values) in
    let value = ap (λ vs. slice_index vs c.loop-value.value-index) c.values-value-items.ensures.values in
    let goes =
    goes_here a b c.args.images.now c.args.op k o alg.algebra stands table c.loop-value.value-index c.loop-value.args c.loop-value.invariant
    within c.op-other.result.now c.op-other.ensures.algebra.algebra c.op-other.ensures.operation c.from.result c.value_at_images.result
    (c.from.ensures ∙ value) c.value_at_images.ensures in
    let same : c.size.result ≡ a.size = c.size.ensures.size ∙ size_is a c.args.op o alg.algebra stands in
    let long : length c.next_tuple.new.xs ≡ c.from-count.result = c.next_tuple.auto.xs ∙ c.loop-value.invariant.long in
    let front : take c.from-count.result (c.next_tuple.new.xs ++ drop c.from-count.result c.loop-value.args) ≡ c.next_tuple.new.xs = take_at new (drop k c.loop-value.args) k long in
    tuple_more a b c.args.images.now c.args.op k o alg.algebra stands table c.loop-value.value-index c.loop-value.args c.loop-value.invariant within _ (goes.1 c.if-images-from.false)
    (ap length front ∙ long)
    (drop_at new (drop k c.loop-value.args) k long)
    (subst (λ (q : ℕ × List ℕ). AllByRecursion (λ x. x < q.0) q.1) (λ i. (same i, sym front i)) c.next_tuple.ensures.below)
    (subst (λ (q : ℕ × List ℕ). numeral q.0 old + 1 < q.0 ^ length old → numeral q.0 q.1 ≡ numeral q.0 old + 1) (λ i. (same i, sym front i)) c.next_tuple.ensures.next)

pub returns-clause-none : goal.returns-clause-none
returns-clause-none c =
    none_at_end c.args.a.now c.args.b.now c.args.images.now c.args.op c.from-count.result c.op-table.result.now c.op-table.ensures.algebra.algebra
    c.op-table.ensures.operation c.arity.ensures.table c.loop-value.value-index c.loop-value.args c.loop-value.invariant
    (omega (arith, c.loop-value-test.false, ap length c.values-value-items.ensures.values))
