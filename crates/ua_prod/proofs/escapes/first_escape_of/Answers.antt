use Rattle.std.proofs.Common.{◌<◌, length, map, ap, sym, subst, ◌∙◌, arith}
use Rattle.std.specs.Prelude.{Contains}
use Rattle.std.specs.List.{AllByRecursion}
use Rattle.std.proofs.lemmas.Bool.{both_ways}
use Rattle.std.proofs.lemmas.List.{take_all, length-map}
use Rattle.ua_table.specs.Algebras.{numeral}
use Rattle.ua_prod.specs.Constructions.{tuples_among}
use Rattle.ua_prod.specs.inner.Searches.{AreArguments}
use Rattle.ua_prod.proofs.EscapeLaws.{Stays, value_read, keeps_all, stays_more, first_among}
use Rattle.ua_prod.proofs.escapes.first_escape_of.Goals as goal

pub returns-then-not-is_member-clause-some : goal.returns-then-not-is_member-clause-some
returns-then-not-is_member-clause-some c =
    let o = c.args.table.now in
    let set = c.args.renumbering.now.members.items in
    let numbers = c.in_ok-numbers.ensures.numbers ∙ (λ j. map (numeral (c.size.ensures.size j)) (tuples_among (c.as_slice-members.ensures.value j) (c.arity.ensures.arity j))) in
    let w : c.loop-i.i < length c.in_ok-numbers.numbers.items = (let n = c.in_ok-numbers.numbers.ok.0 in let m = c.len-i-end.ensures in let t = c.loop-i-test.true in omega (arith, n, m, t)) in
    let read = value_read o set c.in_ok-numbers.numbers.items c.values.result.now c.loop-i.i c.index.result.now numbers c.values.ensures.values w c.index.ensures in
    first_among o set c.loop-i.i c.arguments.result c.requires.increasing c.requires.members read.0 c.loop-i.invariant
    (subst (λ n. AreArguments o n c.arguments.result) read.1 c.arguments.ensures)
    (λ k. both_ways c.is_member.result c.if-not-is_member.true (c.is_member.ensures.1 (subst (Contains set) (sym read.2) k)))

pub loop-i-preserved : goal.loop-i-preserved
loop-i-preserved c =
    let o = c.args.table.now in
    let set = c.args.renumbering.now.members.items in
    let numbers = c.in_ok-numbers.ensures.numbers ∙ (λ j. map (numeral (c.size.ensures.size j)) (tuples_among (c.as_slice-members.ensures.value j) (c.arity.ensures.arity j))) in
    let w : c.loop-i.i < length c.in_ok-numbers.numbers.items = (let n = c.in_ok-numbers.numbers.ok.0 in let m = c.len-i-end.ensures in let t = c.loop-i-test.true in omega (arith, n, m, t)) in
    let read = value_read o set c.in_ok-numbers.numbers.items c.values.result.now c.loop-i.i c.index.result.now numbers c.values.ensures.values w c.index.ensures in
    stays_more o set c.loop-i.i read.0 c.loop-i.invariant (subst (Contains set) read.2 (c.is_member.ensures.0 c.if-not-is_member.false))

pub returns-clause-none : goal.returns-clause-none
returns-clause-none c =
    let o = c.args.table.now in
    let set = c.args.renumbering.now.members.items in
    let tuples = tuples_among set o.arity in
    let numbers = c.in_ok-numbers.ensures.numbers ∙ (λ j. map (numeral (c.size.ensures.size j)) (tuples_among (c.as_slice-members.ensures.value j) (c.arity.ensures.arity j))) in
    let all =
    take_all c.loop-i.i tuples
    (let n = c.in_ok-numbers.numbers.ok.0 in
    let m = c.len-i-end.ensures in
    let t = c.loop-i-test.false in let l = length-map tuples (numeral o.size) in let e = ap length numbers in omega (arith, n, m, t, l, e)) in
    keeps_all o set (subst (AllByRecursion (Stays o set)) all c.loop-i.invariant)
