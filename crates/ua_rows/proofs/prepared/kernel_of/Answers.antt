use Rattle.std.proofs.Common.{◌≡◌, ℕ, ◌<◌, ◌≤◌, ◌*◌, ◌^◌, length, take, sym, ap, ◌∙◌, subst, arith}
use Rattle.std.specs.List.{AllByRecursion}
use Rattle.std.proofs.lemmas.List.{take_all}
use Rattle.std.proofs.Math.Nat.{pow-suc, pow-zero}
use Rattle.ua_table.specs.Algebras.{Operation}
use Rattle.ua_table.specs.Tables.{IsTable}
use Rattle.ua_table.proofs.Lists.{all_weaker}
use Rattle.ua_rows.proofs.prepared.kernel_of.Goals as goal

one_power : (n : ℕ) → n ^ 1 ≡ n
one_power n = pow-suc n 0 ∙ ap (λ k. k * n) (pow-zero n) ∙ (let e : 1 * n ≡ n = omega arith in e)

-- a unary operation has as many values as there are elements
unary_long : (o : Operation) → IsTable o → o.arity ≡ 1 → length o.values ≡ o.size
unary_long o table unary = table.operation.total ∙ ap (λ k. o.size ^ k) unary ∙ one_power o.size

pub line_of-requires-clause-small : goal.line_of-requires-clause-small
line_of-requires-clause-small c =
    let o = c.args.table.now in
    let table = c.arity.ensures.table in
    let values = c.values-values.ensures.values in
    let long = unary_long o table (sym c.arity.ensures.arity ∙ c.if-arity-eq1.true) in
    let few = c.if-values-le-LINE.true in
    let same = ap length values in
    let size : o.size ≤ 16 = omega (arith, long, few, same) in
    subst (AllByRecursion (λ x. x < 16)) (sym values) (all_weaker (λ x. x < o.size) (λ x. x < 16) (λ x low. (let l = low in omega (arith, l, size))) o.values table.operation.below)

pub returns-then-values-le-LINE-clause-kernel : goal.returns-then-values-le-LINE-clause-kernel
returns-then-values-le-LINE-clause-kernel c =
    let o = c.args.table.now in
    let table = c.arity.ensures.table in
    let values = c.values-values.ensures.values in
    let unary = sym c.arity.ensures.arity ∙ c.if-arity-eq1.true in
    let long = unary_long o table unary in
    record {
      base = ap length values ∙ long;
      values = ap (take (length o.values)) values ∙ take_all (length o.values) o.values (omega arith);
      reads = (let some = table.inhabited in let same = ap length values in omega (arith, some, long, same), c.if-values-le-LINE.true, unary, c.line_of.ensures);
    }
