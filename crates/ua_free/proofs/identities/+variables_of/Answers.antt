use Rattle.std.proofs.Common.{◌≡◌, ◌<◌, ◌≤◌, length, sym, ap, ◌∙◌, arith}
use Rattle.std.specs.Prelude.{max}
use Rattle.std.proofs.lemmas.List.{take_all}
use Rattle.ua_term.specs.declared.terms.Term.{Term}
use Rattle.ua_term.specs.Trees.{tree_of}
use Rattle.ua_term.proofs.TreeLaws.{var_tree, op_tree, fewer_nodes}
use Rattle.ua_free.specs.Identities.{variables_of}
use Rattle.ua_free.proofs.VariableLaws.{most_in, one_low, most_more}
use Rattle.ua_free.proofs.identities.+variables_of.Goals as goal

pub overflow_add-result : goal.overflow_add-result
overflow_add-result t c =
    let one = ap variables_of (ap tree_of c.in-Var.is ∙ var_tree c.in-Var.i) in
    let low = c.requires in
    omega (arith, one, low)

pub returns-in-Var : goal.returns-in-Var
returns-in-Var t c =
    let one = ap variables_of (ap tree_of c.in-Var.is ∙ var_tree c.in-Var.i) in
    omega (arith, one)

pub variables_of-requires : goal.variables_of-requires
variables_of-requires t c =
    let ts = c.in-Op.terms.items in
    let l : c.loop-i.i < length ts = let m = c.loop-i-test.true in let n = c.len-i-end.ensures in omega (arith, m, n) in
    let fewer = fewer_nodes c.args.term.now c.in-Op.field-0 c.in-Op.terms c.loop-i.i c.index.result.now c.in-Op.is l c.index.ensures in
    let now = c.decreases in
    let all : variables_of (tree_of c.args.term.now) ≡ most_in ts = ap variables_of (ap tree_of c.in-Op.is ∙ op_tree c.in-Op.field-0 c.in-Op.terms) in
    let low = c.requires in
    let one = one_low ts c.loop-i.i c.index.result.now l in
    let same = ap (λ (x : Term). variables_of (tree_of x)) c.index.ensures in
    (omega (arith, fewer, now), omega (arith, one, same, all, low))

pub loop-i-preserved : goal.loop-i-preserved
loop-i-preserved t c =
    let ts = c.in-Op.terms.items in
    let l : c.loop-i.i < length ts = let m = c.loop-i-test.true in let n = c.len-i-end.ensures in omega (arith, m, n) in
    let same = ap (λ (x : Term). variables_of (tree_of x)) c.index.ensures in
    let here = c.variables_of.ensures in
    let greater : c.max-most.result ≡ max c.loop-i.most c.variables_of.result = c.max-most.ensures in
    let so_far = c.loop-i.invariant in
    let more = most_more ts c.loop-i.i c.index.result.now l in
    omega (arith, same, here, greater, so_far, more)

pub returns-after-loop-i : goal.returns-after-loop-i
returns-after-loop-i t c =
    let ts = c.in-Op.terms.items in
    let end : length ts ≤ c.loop-i.i = let m = c.loop-i-test.false in let n = c.len-i-end.ensures in omega (arith, m, n) in
    let all : variables_of (tree_of c.args.term.now) ≡ most_in ts = ap variables_of (ap tree_of c.in-Op.is ∙ op_tree c.in-Op.field-0 c.in-Op.terms) in
    c.loop-i.invariant ∙ ap most_in (take_all c.loop-i.i ts end) ∙ sym all
