use Rattle.std.proofs.Common.{ℕ, ◌≡◌, ◌<◌, ◌++◌, length, take, map, sym, ◌∙◌, ap, subst, arith, length-set}
use Rattle.std.specs.List.{AllByRecursion, range_with_len}
use Rattle.std.proofs.lemmas.List.{length-take-le, take_all}
use Rattle.std.proofs.lemmas.List.Elements.{All-from_recursion}
use Rattle.ua_term.proofs.TreeLaws.{operation_facts, values_push}
use Rattle.ua_clone.specs.declared.polynomials.Poly.{Poly}
use Rattle.ua_clone.specs.Polynomials.{polynomial_value, polynomial_of, IsPoly}
use Rattle.ua_clone.proofs.PolyLaws.{applies, fewer_nodes, applied_value, values_below, variable_value, element_value, variable_low, element_low}
use Rattle.ua_clone.proofs.polynomials.+poly_value.Goals as goal

pub poly_value-requires : goal.poly_value-requires
poly_value-requires t c =
    let a = c.args.a.now in
    let k = length c.args.args.now in
    let ps = c.in-Op.polys.items in
    let l : c.loop-i.i < length ps = let m = c.loop-i-test.true in let n = c.len-i-end.ensures in omega (arith, m, n) in
    let fewer = fewer_nodes k c.args.p.now c.in-Op.f c.in-Op.polys c.loop-i.i c.index.result.now c.in-Op.is l c.index.ensures in
    let now = c.decreases in
    let h = applies a k c.args.p.now c.in-Op.f c.in-Op.polys c.in-Op.is c.requires.polynomial in
    (omega (arith, fewer, now), (subst (IsPoly a k) (sym c.index.ensures) (h.each c.loop-i.i c.index.result.now l), c.requires.below))

pub bounds-values-i : goal.bounds-values-i
bounds-values-i t c =
    let a = c.args.a.now in
    let h = applies a (length c.args.args.now) c.args.p.now c.in-Op.f c.in-Op.polys c.in-Op.is c.requires.polynomial in
    let facts = operation_facts a c.in-Op.f c.op-op.result.now c.op-op.ensures.algebra c.op-op.ensures.operation in
    let arity = facts.arity in
    let few = facts.few in
    let count = h.count in
    let l = c.loop-i-test.true in
    let n = c.len-i-end.ensures in
    omega (arith, arity, few, count, l, n)

pub loop-i-preserved : goal.loop-i-preserved
loop-i-preserved t c =
    let a = c.args.a.now in
    let k = length c.args.args.now in
    let ps = c.in-Op.polys.items in
    let h = applies a k c.args.p.now c.in-Op.f c.in-Op.polys c.in-Op.is c.requires.polynomial in
    let facts = operation_facts a c.in-Op.f c.op-op.result.now c.op-op.ensures.algebra c.op-op.ensures.operation in
    let arity = facts.arity in
    let few = facts.few in
    let count = h.count in
    let four = c.loop-i.invariant.four in
    let l : c.loop-i.i < length ps = let m = c.loop-i-test.true in let n = c.len-i-end.ensures in omega (arith, m, n) in
    let f : Poly → ℕ = λ (p : Poly). polynomial_value a c.args.args.now (polynomial_of k p) in
    record {
      four = length-set c.loop-i.values c.loop-i.i c.poly_value.result ∙ four;
      done = values_push f ps c.loop-i.values c.loop-i.i c.index.result.now c.poly_value.result (omega (arith, arity, few, count, four, l)) l (c.poly_value.ensures.value ∙ ap f c.index.ensures) c.loop-i.invariant.done;
    }

pub value-requires-clause-arity : goal.value-requires-clause-arity
value-requires-clause-arity t c =
    let a = c.args.a.now in
    let h = applies a (length c.args.args.now) c.args.p.now c.in-Op.f c.in-Op.polys c.in-Op.is c.requires.polynomial in
    let facts = operation_facts a c.in-Op.f c.op-op.result.now c.op-op.ensures.algebra c.op-op.ensures.operation in
    let arity = facts.arity in
    let few = facts.few in
    let count = h.count in
    let four = c.loop-i.invariant.four in
    let l = c.len.ensures in
    let e : c.len.result ≡ c.op-op.result.now.arity = omega (arith, arity, count, l) in
    length-take-le c.len.result c.loop-i.values (omega (arith, few, e, four)) ∙ e

pub value-requires-clause-below : goal.value-requires-clause-below
value-requires-clause-below t c =
    let a = c.args.a.now in
    let args = c.args.args.now in
    let k = length args in
    let ps = c.in-Op.polys.items in
    let h = applies a k c.args.p.now c.in-Op.f c.in-Op.polys c.in-Op.is c.requires.polynomial in
    let facts = operation_facts a c.in-Op.f c.op-op.result.now c.op-op.ensures.algebra c.op-op.ensures.operation in
    let f : Poly → ℕ = λ (p : Poly). polynomial_value a args (polynomial_of k p) in
    let whole = take_all c.loop-i.i ps (let m = c.loop-i-test.false in let n = c.len-i-end.ensures in omega (arith, m, n)) in
    let at : c.len.result ≡ c.loop-i.i = let m = c.len.ensures in let n = c.len-i-end.ensures in let g = c.loop-i-test.false in let e = c.loop-i.auto.i-end in omega (arith, m, n, g, e) in
    let same = ap (λ n. take n c.loop-i.values) at ∙ c.loop-i.invariant.done ∙ ap (map f) whole in
    subst (λ zs. AllByRecursion (λ x. x < c.op-op.result.now.size) zs) (sym same)
    (subst (λ n. AllByRecursion (λ x. x < n) (map f ps)) (sym facts.size) (values_below a args ps c.op-op.ensures.algebra.algebra c.requires.below h.terms))

pub returns-in-Var-clause-value : goal.returns-in-Var-clause-value
returns-in-Var-clause-value t c =
    let low = variable_low c.args.a.now (length c.args.args.now) c.args.p.now c.in-Var.i c.in-Var.is c.requires.polynomial in
    variable_value c.args.a.now c.args.args.now c.args.p.now c.in-Var.i c.in-Var.is low

pub returns-in-Var-clause-element : goal.returns-in-Var-clause-element
returns-in-Var-clause-element t c =
    let low = variable_low c.args.a.now (length c.args.args.now) c.args.p.now c.in-Var.i c.in-Var.is c.requires.polynomial in
    All-from_recursion (λ x. x < c.args.a.now.size) c.args.args.now c.requires.below c.in-Var.i 0 low

pub returns-in-Const-clause-value : goal.returns-in-Const-clause-value
returns-in-Const-clause-value t c =
    let low = element_low c.args.a.now (length c.args.args.now) c.args.p.now c.in-Const.c c.in-Const.is c.requires.polynomial in
    element_value c.args.a.now c.args.args.now c.args.p.now c.in-Const.c c.in-Const.is low

pub returns-after-loop-i-clause-value : goal.returns-after-loop-i-clause-value
returns-after-loop-i-clause-value t c =
    let a = c.args.a.now in
    let args = c.args.args.now in
    let k = length args in
    let ps = c.in-Op.polys.items in
    let f : Poly → ℕ = λ (p : Poly). polynomial_value a args (polynomial_of k p) in
    let whole = take_all c.loop-i.i ps (let m = c.loop-i-test.false in let n = c.len-i-end.ensures in omega (arith, m, n)) in
    let at : c.len.result ≡ c.loop-i.i = let m = c.len.ensures in let n = c.len-i-end.ensures in let g = c.loop-i-test.false in let e = c.loop-i.auto.i-end in omega (arith, m, n, g, e) in
    let same = ap (λ n. take n c.loop-i.values) at ∙ c.loop-i.invariant.done ∙ ap (map f) whole in
    c.value.ensures.value ∙ applied_value a (args ++ range_with_len 0 a.size) k c.args.p.now c.in-Op.f c.op-op.result.now c.in-Op.polys (take c.len.result c.loop-i.values) c.in-Op.is c.op-op.ensures.algebra c.op-op.ensures.operation same

pub returns-after-loop-i-clause-element : goal.returns-after-loop-i-clause-element
returns-after-loop-i-clause-element t c =
    let e = c.value.ensures.element in
    let s = (operation_facts c.args.a.now c.in-Op.f c.op-op.result.now c.op-op.ensures.algebra c.op-op.ensures.operation).size in
    omega (arith, e, s)
