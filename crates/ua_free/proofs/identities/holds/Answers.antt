use Rattle.std.proofs.Common.{◌≡◌, ◌+◌, ◌^◌, ◌<◌, ℕ, List, length, drop, max, replicate, sym, ap, ◌∙◌, subst, arith}
use Rattle.std.specs.List.{AllByRecursion}
use Rattle.std.proofs.lemmas.List.{take_at}
use Rattle.ua_table.specs.declared.limits.TheConstants.{VARIABLES}
use Rattle.ua_table.specs.Algebras.{FiniteAlgebra, arities_of, numeral}
use Rattle.ua_table.specs.Terms.{Tree, eval}
use Rattle.ua_term.specs.Assignments.{IsAssignment}
use Rattle.ua_term.specs.Trees.{tree_of}
use Rattle.ua_free.specs.Identities.{Holds, FailsFirst, variables_of, variables_in}
use Rattle.ua_free.proofs.VariableLaws.{variables_low, term_within}
use Rattle.ua_free.proofs.WalkLaws.{IsNumbered, walk_begins, walk_goes_on, all_hold, one_more_holds, fails_first}
use Rattle.ua_free.proofs.identities.holds.Goals as goal

pub variables_of-requires : goal.variables_of-requires
variables_of-requires c = variables_low (arities_of c.args.a.now) VARIABLES (tree_of c.args.s.now) c.requires.left

pub variables_of-requires-2 : goal.variables_of-requires-2
variables_of-requires-2 c = variables_low (arities_of c.args.a.now) VARIABLES (tree_of c.args.t.now) c.requires.right

-- the greater of the two numbers is that of the identity
both : (s t : Tree) (m x y : ℕ) → m ≡ max x y → x ≡ variables_of s → y ≡ variables_of t → m ≡ variables_in s t
both s t m x y e f g = e ∙ (λ i. max (f i) (g i))

pub assignment_count-count-requires-clause-variables : goal.assignment_count-count-requires-clause-variables
assignment_count-count-requires-clause-variables c =
    let left = variables_low (arities_of c.args.a.now) VARIABLES (tree_of c.args.s.now) c.requires.left in
    let right = variables_low (arities_of c.args.a.now) VARIABLES (tree_of c.args.t.now) c.requires.right in
    let most = both (tree_of c.args.s.now) (tree_of c.args.t.now) c.max-variables.result c.variables_of.result c.variables_of-2.result c.max-variables.ensures c.variables_of.ensures c.variables_of-2.ensures in
    omega (arith, left, right, most)

pub loop-init : goal.loop-init
loop-init c = record {
  walk =
      subst (IsNumbered c.args.a.now.size c.max-variables.result 0)
      (sym (c.in_ok-xs.ensures.items_if_clones_equal (λ y e. e) ∙ ap (λ n. replicate n 0) c.from-2.ensures))
      (walk_begins c.args.a.now.size c.max-variables.result c.size.ensures.algebra.algebra.inhabited);
  below = λ ys fine less. absurd (omega (arith, less));
}

pub eval-requires-clause-term : goal.eval-requires-clause-term
eval-requires-clause-term c =
    let most = both (tree_of c.args.s.now) (tree_of c.args.t.now) c.max-variables.result c.variables_of.result c.variables_of-2.result c.max-variables.ensures c.variables_of.ensures c.variables_of-2.ensures in
    let long = ap length c.as_slice.ensures.value in
    let count = c.loop.invariant.walk.assignment.count in
    term_within (arities_of c.args.a.now) VARIABLES (length c.as_slice.result.now) (tree_of c.args.s.now) c.requires.left (omega (arith, most, long, count))

pub eval-requires-in-loop-clause-term : goal.eval-requires-in-loop-clause-term
eval-requires-in-loop-clause-term c =
    let most = both (tree_of c.args.s.now) (tree_of c.args.t.now) c.max-variables.result c.variables_of.result c.variables_of-2.result c.max-variables.ensures c.variables_of.ensures c.variables_of-2.ensures in
    let long = ap length c.as_slice-in-loop.ensures.value in
    let count = c.loop.invariant.walk.assignment.count in
    term_within (arities_of c.args.a.now) VARIABLES (length c.as_slice-in-loop.result.now) (tree_of c.args.t.now) c.requires.right (omega (arith, most, long, count))

-- the two values at the same assignment
values_at : (a : FiniteAlgebra) (s t : Tree) (xs ys zs : List ℕ) (x y : ℕ) → ys ≡ xs → zs ≡ xs → x ≡ eval a ys s → y ≡ eval a zs t → (x ≡ eval a xs s) × (y ≡ eval a xs t)
values_at a s t xs ys zs x y e f g h = (g ∙ ap (λ us. eval a us s) e, h ∙ ap (λ us. eval a us t) f)

pub returns-then-eval : goal.returns-then-eval
returns-then-eval c =
    let a = c.args.a.now in
    let s = tree_of c.args.s.now in
    let t = tree_of c.args.t.now in
    let most = both (tree_of c.args.s.now) (tree_of c.args.t.now) c.max-variables.result c.variables_of.result c.variables_of-2.result c.max-variables.ensures c.variables_of.ensures c.variables_of-2.ensures in
    let count = c.assignment_count-count.ensures.count ∙ ap (λ n. n ^ c.max-variables.result) c.size.ensures.size in
    let few = c.if-count-from.false in
    let limit = c.from.ensures in
    let xs = c.loop.xs.items in
    let values = values_at a s t xs c.as_slice.result.now c.as_slice-in-loop.result.now c.eval.result c.eval-in-loop.result c.as_slice.ensures.value c.as_slice-in-loop.ensures.value c.eval.ensures.value c.eval-in-loop.ensures.value in
    let less = c.loop-test.true in
    let apart = c.if-eval.true in
    record {
      permitted = (
        (let all = ap (λ k. a.size ^ k) most in omega (arith, count, few, limit, all)),
        subst (λ k. FailsFirst a k s t xs) most
            (fails_first a c.max-variables.result s t c.loop.counter c.loop.invariant.below xs c.loop.invariant.walk (omega (arith, less, count)) (λ agree. apart (values.0 ∙ agree ∙ sym values.1))),
      );
    }

pub loop-preserved : goal.loop-preserved
loop-preserved c =
    let a = c.args.a.now in
    let s = tree_of c.args.s.now in
    let t = tree_of c.args.t.now in
    let count = c.assignment_count-count.ensures.count ∙ ap (λ n. n ^ c.max-variables.result) c.size.ensures.size in
    let xs = c.loop.xs.items in
    let ys = c.next_tuple.new.xs in
    let values = values_at a s t xs c.as_slice.result.now c.as_slice-in-loop.result.now c.eval.result c.eval-in-loop.result c.as_slice.ensures.value c.as_slice-in-loop.ensures.value c.eval.ensures.value c.eval-in-loop.ensures.value in
    let less = c.loop-test.true in
    let size = c.size-in-loop.ensures.size in
    let lent = c.as_mut_slice.ensures.value in
    let fine : IsAssignment a.size c.max-variables.result ys =
    record {
      count = c.next_tuple.auto.xs ∙ ap length lent
          ∙ c.loop.invariant.walk.assignment.count;
      elements = subst (λ n. AllByRecursion (λ x. x < n) ys) size c.next_tuple.ensures.below;
    } in
    let next : numeral a.size xs + 1 < a.size ^ length xs → numeral a.size ys ≡ numeral a.size xs + 1 =
    subst (λ n. numeral n xs + 1 < n ^ length xs → numeral n ys ≡ numeral n xs + 1) size
    (subst
    (λ us.
    numeral c.size-in-loop.result us + 1 < c.size-in-loop.result ^ length us
    → numeral c.size-in-loop.result ys ≡ numeral c.size-in-loop.result us + 1)
    lent c.next_tuple.ensures.next)
    in
    let room : length ys ≡ c.loop.xs.len = omega (arith, c.loop.xs.ok.0, fine.count, c.loop.invariant.walk.assignment.count) in
    record {
      walk =
          subst (IsNumbered a.size c.max-variables.result (c.loop.counter + 1)) (sym (take_at ys (drop (length ys) xs) c.loop.xs.len room))
          (walk_goes_on a.size c.max-variables.result c.loop.counter xs ys c.loop.invariant.walk fine next);
      below = one_more_holds a c.max-variables.result s t c.loop.counter c.loop.invariant.below xs c.loop.invariant.walk (omega (arith, less, count)) (sym values.0 ∙ c.if-eval.false ∙ values.1);
    }

pub returns : goal.returns
returns c =
    let a = c.args.a.now in
    let s = tree_of c.args.s.now in
    let t = tree_of c.args.t.now in
    let most = both (tree_of c.args.s.now) (tree_of c.args.t.now) c.max-variables.result c.variables_of.result c.variables_of-2.result c.max-variables.ensures c.variables_of.ensures c.variables_of-2.ensures in
    let count = c.assignment_count-count.ensures.count ∙ ap (λ n. n ^ c.max-variables.result) c.size.ensures.size in
    let few = c.if-count-from.false in
    let limit = c.from.ensures in
    let end = c.loop-test.false in
    record {
      permitted = (
        (let all = ap (λ k. a.size ^ k) most in omega (arith, count, few, limit, all)),
        subst (λ k. Holds a k s t) most (all_hold a c.max-variables.result s t c.loop.counter c.loop.invariant.below (omega (arith, end, count))),
      );
    }
