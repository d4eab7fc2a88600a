use Rattle.std.proofs.Common.{◌≡◌, ◌*◌, ◌^◌, ◌≤◌, ℕ, List, [], ◌∷◌, length, map, sym, subst, arith}
use Rattle.std.proofs.lemmas.List.{length-map}
use Rattle.std.proofs.lemmas.Nat.{mul-le}
use Rattle.ua_table.specs.declared.limits.TheConstants.{BUDGET}
use Rattle.ua_table.specs.Algebras.{Operation, FiniteAlgebra, arities_of}
use Rattle.ua_table.specs.Numbering.{greatest}
use Rattle.ua_table.specs.Tables.{IsAlgebraTable}
use Rattle.ua_table.proofs.FrameLaws.{IsShape-arities}
use Rattle.ua_table.proofs.Packed.{power_wide, greatest_small}
use Rattle.ua_matrix.proofs.leading.is_narrow.Goals as goal

-- few operations, none of a great arity
record IsLow (ops : List Operation) : Type 0 where
  few : length ops ≤ 64
  low : greatest (map (λ (o : Operation). o.arity) ops) ≤ 4

low_from : (a : FiniteAlgebra) (ops : List Operation) → ops ≡ a.operations → IsAlgebraTable a → IsLow ops
low_from a ops same table =
    let shape = IsShape-arities (a ∷ []) (table, tt) in
    subst IsLow (sym same) (record { few = (let n = shape.few in omega (arith, n, length-map a.operations (λ (o : Operation). o.arity))); low = greatest_small (arities_of a) shape })

product_small : (ops : List Operation) (b e n : ℕ) → IsLow ops → b ≤ BUDGET → e ≤ 4 → n ≡ b ^ e → length ops * n ≤ 64000000000000000000000000
product_small ops b e n low budget small is =
    let w = power_wide b e budget small in
    let m = mul-le (length ops) n 64 1000000000000000000000000 low.few (omega (arith, w, is)) in
    omega (arith, m)

pub pow-power-requires : goal.pow-power-requires
pow-power-requires c =
    let low = low_from c.args.a.now c.ops-ops.result.now c.ops-ops.ensures.operations c.ops-ops.ensures.algebra in
    let p = power_wide c.from.result c.from-2.result (omega (arith, c.requires, c.from.ensures)) (let l = low.low in omega (arith, l, c.from-2.ensures, c.greatest_arity.ensures)) in
    omega (arith, p)

pub overflow_mul-records : goal.overflow_mul-records
overflow_mul-records c =
    let low = low_from c.args.a.now c.ops-ops.result.now c.ops-ops.ensures.operations c.ops-ops.ensures.algebra in
    let m =
    product_small c.ops-ops.result.now c.from.result c.from-2.result c.pow-power.result low (omega (arith, c.requires, c.from.ensures))
    (let l = low.low in omega (arith, l, c.from-2.ensures, c.greatest_arity.ensures)) c.pow-power.ensures in
    omega (arith, m)

pub overflow_add-records-2 : goal.overflow_add-records-2
overflow_add-records-2 c =
    let low = low_from c.args.a.now c.ops-ops.result.now c.ops-ops.ensures.operations c.ops-ops.ensures.algebra in
    let m =
    product_small c.ops-ops.result.now c.from.result c.from-2.result c.pow-power.result low (omega (arith, c.requires, c.from.ensures))
    (let l = low.low in omega (arith, l, c.from-2.ensures, c.greatest_arity.ensures)) c.pow-power.ensures in
    let gens = c.ranges.gens.fits in
    omega (arith, m, c.from-3.ensures, gens)
