use Rattle.std.proofs.Common.{ℕ, ◌<◌, ◌≤◌, Some, List, length, take, sym, ap, ◌∙◌, arith}
use Rattle.std.proofs.lemmas.List.{length-replicate}
use Rattle.ua_flaws.specs.Closing.{missing}
use Rattle.ua_table.specs.Algebras.{Product}
use Rattle.std.specs.Option.{option_map}
use Rattle.ua_term.specs.Printing.{name_at}
use Rattle.ua_flaws.specs.declared.flaws.Flaw.TheVariants as flaw
use Rattle.ua_flaws.proofs.ResultLaws.{arity_at, operations_begin, next_operation, this_operation, no_operation}
use Rattle.ua_flaws.proofs.closing.results.Goals as goal

pub loop-op-init : goal.loop-op-init
loop-op-init c = record {
  scratch = ap length c.in_ok-scratch.ensures ∙ length-replicate c.width.result 0 ∙ c.width.ensures.width ∙ sym (ap length c.requires.product ∙ length-replicate c.args.table.now.rows.now.width c.args.a.now);
  rest = operations_begin c.args.a.now c.args.table.now.rows.now.width c.args.table.now.operations c.args.table.now.rows.now.items c.requires.product c.requires.some;
}

pub first_result-requires-clause-arity : goal.first_result-requires-clause-arity
first_result-requires-clause-arity c =
    c.from-arity.ensures ∙ c.arity.ensures.arity
    ∙ arity_at c.args.a.now c.args.table.now.rows.now.width c.args.table.now.operations c.loop-op.op c.op.result.now c.requires.product
    c.requires.some c.op.ensures.operation

pub returns-in-Some : goal.returns-in-Some
returns-in-Some c =
    let this = c.first_result.ensures.first ∙ ap (option_map (λ (places : List ℕ). (c.loop-op.op, take c.from-arity.result places))) c.in-Some.is in
    let low : c.loop-op.op < length c.args.a.now.operations = (let l = c.loop-op-test.true in let e = ap length c.ops.ensures.operations in omega arith) in
    ap (λ (q : Product). option_map (λ (r : ℕ × List ℕ). flaw.Missing (name_at c.args.a.now r.0) r.1) (missing q c.args.table.now.rows.now.items)) (sym c.requires.product) ∙
    ap (option_map (λ (r : ℕ × List ℕ). flaw.Missing (name_at c.args.a.now r.0) r.1))
    (c.loop-op.invariant.rest ∙ this_operation c.args.table.now.operations c.args.table.now.rows.now.items (length c.args.a.now.operations) c.loop-op.op (c.loop-op.op, take c.from-arity.result c.in-Some.args) low this)
    ∙ ap (λ f. Some f) (sym c.in_ok-missing_flaw.ensures)

pub loop-op-preserved : goal.loop-op-preserved
loop-op-preserved c =
    let this = c.first_result.ensures.first ∙ ap (option_map (λ (places : List ℕ). (c.loop-op.op, take c.from-arity.result places))) c.in_default.is in
    let low : c.loop-op.op < length c.args.a.now.operations = (let l = c.loop-op-test.true in let e = ap length c.ops.ensures.operations in omega arith) in
    record {
      scratch = c.first_result.ensures.width;
      rest = c.loop-op.invariant.rest ∙ next_operation c.args.table.now.operations c.args.table.now.rows.now.items (length c.args.a.now.operations) c.loop-op.op low this;
    }

pub returns : goal.returns
returns c =
    let past : length c.args.a.now.operations ≤ c.loop-op.op = (let l = c.loop-op-test.false in let e = ap length c.ops.ensures.operations in omega arith) in
    ap (λ (q : Product). option_map (λ (r : ℕ × List ℕ). flaw.Missing (name_at c.args.a.now r.0) r.1) (missing q c.args.table.now.rows.now.items)) (sym c.requires.product) ∙
    ap (option_map (λ (r : ℕ × List ℕ). flaw.Missing (name_at c.args.a.now r.0) r.1))
    (c.loop-op.invariant.rest ∙ no_operation c.args.table.now.operations c.args.table.now.rows.now.items (length c.args.a.now.operations) c.loop-op.op past)
