use Rattle.std.proofs.Common.{◌<◌, length, take, get_or, length-set, refl, sym, subst, ◌∙◌, arith}
use Rattle.std.specs.Prelude.{slice_index}
use Rattle.std.specs.List.{AllByRecursion}
use Rattle.std.proofs.lemmas.List.{length-take-le}
use Rattle.ua_term.proofs.TreeLaws.{operation_facts, values_push}
use Rattle.ua_check.proofs.ValueLaws.{operation_value, entries_below}
use Rattle.ua_check.proofs.values.applied.Goals as goal

pub loop-j-preserved : goal.loop-j-preserved
loop-j-preserved c =
    let four = c.loop-j.invariant.four in
    let facts = operation_facts c.args.a.now c.args.op c.op-table.result.now c.op-table.ensures.algebra c.op-table.ensures.operation in
    let few = facts.few in let arity = c.requires.arity in let k = facts.arity in let l = c.loop-j-test.true in
    record {
      four = length-set c.loop-j.entries c.loop-j.j (get_or c.args.values.now (get_or c.args.args.now c.loop-j.j 0) 0) ∙ four;
      done = values_push (slice_index c.args.values.now) c.args.args.now c.loop-j.entries c.loop-j.j 0 (get_or c.args.values.now (get_or c.args.args.now c.loop-j.j 0) 0) (omega arith) (omega arith) refl c.loop-j.invariant.done;
    }

pub value-requires-clause-arity : goal.value-requires-clause-arity
value-requires-clause-arity c =
    let four = c.loop-j.invariant.four in
    let facts = operation_facts c.args.a.now c.args.op c.op-table.result.now c.op-table.ensures.algebra c.op-table.ensures.operation in
    let few = facts.few in let arity = c.requires.arity in let k = facts.arity in
    length-take-le (length c.args.args.now) c.loop-j.entries (omega arith) ∙ arity ∙ k

pub value-requires-clause-below : goal.value-requires-clause-below
value-requires-clause-below c =
    let facts = operation_facts c.args.a.now c.args.op c.op-table.result.now c.op-table.ensures.algebra c.op-table.ensures.operation in
    let l = c.loop-j-test.false in
    subst (λ n. AllByRecursion (λ x. x < n) (take (length c.args.args.now) c.loop-j.entries)) (sym facts.size)
    (entries_below c.args.a.now.size c.args.values.now c.args.args.now c.loop-j.entries c.loop-j.j (omega arith) (omega arith) c.loop-j.invariant.done c.requires.named c.requires.values)

pub returns-clause-value : goal.returns-clause-value
returns-clause-value c =
    let l = c.loop-j-test.false in
    c.value.ensures.value
    ∙ operation_value c.args.a.now c.args.op c.op-table.result.now c.args.values.now c.args.args.now c.loop-j.entries c.loop-j.j
    c.op-table.ensures.algebra c.op-table.ensures.operation (omega arith) (omega arith) c.loop-j.invariant.done

pub returns-clause-element : goal.returns-clause-element
returns-clause-element c =
    let facts = operation_facts c.args.a.now c.args.op c.op-table.result.now c.op-table.ensures.algebra c.op-table.ensures.operation in
    let size = facts.size in let e = c.value.ensures.element in omega (arith, size, e)
