use Rattle.std.proofs.Common.{◌≡◌, ◌*◌, ◌^◌, ◌≤◌, length, map, ap, sym, ◌∙◌, arith}
use Rattle.std.specs.List.{range_with_len}
use Rattle.ua_table.specs.declared.limits.TheConstants.{VALUES}
use Rattle.ua_table.specs.Algebras.{Operation, arities_of}
use Rattle.ua_table.proofs.Lists.{All-slice_get, mapped_at}
use Rattle.ua_prod.specs.Constructions.{first_of, second_of}
use Rattle.ua_prod.proofs.ClashLaws.{size_is}
use Rattle.ua_prod.proofs.SizeLaws.{each_within}
use Rattle.ua_prod.proofs.ProductLaws.{same_arity, side_more, side_all}
use Rattle.ua_prod.proofs.products.tables_paired.Goals as goal

pub table_paired-requires-clause-arity : goal.table_paired-requires-clause-arity
table_paired-requires-clause-arity c = same_arity c.args.a.now c.args.b.now c.loop-f.f c.op.result.now c.op-in-loop-f.result.now c.requires.signature c.op.ensures.operation c.op-in-loop-f.ensures.operation

pub table_paired-requires-clause-few : goal.table_paired-requires-clause-few
table_paired-requires-clause-few c =
    let left = size_is c.args.a.now c.loop-f.f c.op.result.now c.op.ensures.algebra.algebra c.op.ensures.operation in
    let right = size_is c.args.b.now c.loop-f.f c.op-in-loop-f.result.now c.op-in-loop-f.ensures.algebra.algebra c.op-in-loop-f.ensures.operation in
    let size : c.op.result.now.size * c.op-in-loop-f.result.now.size ≡ c.args.a.now.size * c.args.b.now.size = λ j. left j * right j in
    omega (arith, size, c.requires.few)

pub table_paired-requires-clause-values : goal.table_paired-requires-clause-values
table_paired-requires-clause-values c =
    let left = size_is c.args.a.now c.loop-f.f c.op.result.now c.op.ensures.algebra.algebra c.op.ensures.operation in
    let right = size_is c.args.b.now c.loop-f.f c.op-in-loop-f.result.now c.op-in-loop-f.ensures.algebra.algebra c.op-in-loop-f.ensures.operation in
    let n = c.args.a.now.size * c.args.b.now.size in
    let power : (c.op.result.now.size * c.op-in-loop-f.result.now.size) ^ c.op.result.now.arity ≡ (c.args.a.now.size * c.args.b.now.size) ^ c.op.result.now.arity = λ j. (left j * right j) ^ c.op.result.now.arity in
    let within =
    All-slice_get (λ k. n ^ k ≤ VALUES) (arities_of c.args.a.now) c.loop-f.f c.op.result.now.arity
    (each_within n VALUES (arities_of c.args.a.now) c.requires.values)
    (mapped_at (λ (o : Operation). o.arity) c.args.a.now.operations c.loop-f.f c.op.result.now c.op.ensures.operation) in
    omega (arith, power, within)

pub table_paired-requires-clause-firsts : goal.table_paired-requires-clause-firsts
table_paired-requires-clause-firsts c =
    let left = size_is c.args.a.now c.loop-f.f c.op.result.now c.op.ensures.algebra.algebra c.op.ensures.operation in
    let right = size_is c.args.b.now c.loop-f.f c.op-in-loop-f.result.now c.op-in-loop-f.ensures.algebra.algebra c.op-in-loop-f.ensures.operation in
    c.in_ok-pairs.ensures.firsts ∙ (λ j. map (first_of ((c.size-2.ensures.size ∙ sym right) j)) (range_with_len 0 ((c.size.ensures.size ∙ sym left) j * (c.size-2.ensures.size ∙ sym right) j)))

pub table_paired-requires-clause-seconds : goal.table_paired-requires-clause-seconds
table_paired-requires-clause-seconds c =
    let left = size_is c.args.a.now c.loop-f.f c.op.result.now c.op.ensures.algebra.algebra c.op.ensures.operation in
    let right = size_is c.args.b.now c.loop-f.f c.op-in-loop-f.result.now c.op-in-loop-f.ensures.algebra.algebra c.op-in-loop-f.ensures.operation in
    c.in_ok-pairs.ensures.seconds ∙ (λ j. map (second_of ((c.size-2.ensures.size ∙ sym right) j)) (range_with_len 0 ((c.size.ensures.size ∙ sym left) j * (c.size-2.ensures.size ∙ sym right) j)))

pub loop-f-preserved : goal.loop-f-preserved
loop-f-preserved c =
    side_more c.args.a.now.operations c.args.b.now.operations c.loop-f.f c.op.result.now c.op-in-loop-f.result.now c.in_ok-table_paired.field-0 c.loop-f.tables.items c.push.new.self.items
    c.op.ensures.operation c.op-in-loop-f.ensures.operation c.loop-f.invariant c.in_ok-push.ensures.items c.in_ok-table_paired.ensures

pub returns : goal.returns
returns c =
    let all = ap length c.ops-2.ensures.operations in
    side_all c.args.a.now.operations c.args.b.now.operations c.loop-f.f c.loop-f.tables.items (omega (arith, all, c.loop-f-test.false)) c.loop-f.invariant
