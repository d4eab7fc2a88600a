use Rattle.std.proofs.Common.{◌+◌, ◌<◌, get_or, set, rules, refl, sym, ◌∙◌, subst, arith}
use Rattle.std.proofs.lemmas.List.Elements.{All-from_recursion}
use Rattle.std.proofs.lemmas.List.{get_or_default}
use Rattle.ua_lattice.proofs.CountLaws.{AreCounted, counted_none, counted_low, counted_more, counted_all}
use Rattle.ua_lattice.proofs.irreducibles.count_lower.Goals as goal

pub overflow_add-index_mut : goal.overflow_add-index_mut
overflow_add-index_mut c =
    let covers = c.args.covers.now in
    let counts = c.loop-k.counts.items in
    let above = (get_or covers c.loop-k.k (0, 0)).1 in
    let low : above < c.args.count = All-from_recursion _ covers c.requires c.loop-k.k (0, 0) c.loop-k-test.true in
    let few = counted_low covers c.args.count c.loop-k.k counts above c.loop-k.invariant low (omega (arith, c.loop-k-test.true)) in
    let here = c.index_mut.ensures.value ∙ get_or_default counts above c.index_mut.result.now 0 (let n = c.loop-k.invariant.size in omega (arith, low, n)) in
    omega (arith, few, here, c.loop-k-test.true)

pub loop-k-init : goal.loop-k-init
loop-k-init c = counted_none c.args.covers.now c.args.count c.in_ok-counts.counts.items (search rules)

pub loop-k-preserved : goal.loop-k-preserved
loop-k-preserved c =
    let covers = c.args.covers.now in
    let counts = c.loop-k.counts.items in
    let above = (get_or covers c.loop-k.k (0, 0)).1 in
    let low : above < c.args.count = All-from_recursion _ covers c.requires c.loop-k.k (0, 0) c.loop-k-test.true in
    let here = c.index_mut.ensures.value ∙ get_or_default counts above c.index_mut.result.now 0 (let n = c.loop-k.invariant.size in omega (arith, low, n)) in
    subst (λ v. AreCounted covers c.args.count (c.loop-k.k + 1) (set counts above (v + 1))) (sym here) (counted_more covers c.args.count c.loop-k.k counts c.loop-k.invariant c.loop-k-test.true above refl low)

pub returns : goal.returns
returns c = counted_all c.args.covers.now c.args.count c.loop-k.k c.loop-k.counts.items c.loop-k.invariant c.loop-k-test.false
