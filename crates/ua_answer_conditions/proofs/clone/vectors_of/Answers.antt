use Rattle.std.proofs.Common.{◌≡◌, ◌+◌, ◌<◌, List, [], ◌∷◌, length, sym, ap, ◌∙◌, subst, arith}
use Rattle.std.specs.List.{AllByRecursion}
use Rattle.std.proofs.lemmas.List.{take_all}
use Rattle.ua_table.specs.Algebras.{Vector}
use Rattle.ua_table.proofs.Lists.{all_get_or}
use Rattle.ua_operands.specs.declared.written.Items.{Items}
use Rattle.ua_reply.specs.Checks.{Passes}
use Rattle.ua_reply.specs.Operands.{vectors_of, vector_in}
use Rattle.ua_answer_conditions.proofs.WrittenTables.{vectors_pass, point_is, points_are}
use Rattle.ua_answer_conditions.proofs.clone.vectors_of.Goals as goal

pub vector-requires : goal.vector-requires
vector-requires c = record { passed = (vectors_pass c.args.known.now c.args.k [] (c.args.first.now ∷ c.args.others.now) c.requires.checks).0 }

pub add-requires-clause-width : goal.add-requires-clause-width
add-requires-clause-width c =
    let b = c.args.known.now in
    let k = c.args.k in
    let p = (vectors_pass b k [] (c.args.first.now ∷ c.args.others.now) c.requires.checks).0 in
    ap length (c.deref.ensures.value ∙ c.in_ok-row.ensures.values) ∙ (point_is b k c.args.first.now p).0 ∙ sym c.new-list.ensures.width

pub vector-requires-in-loop-v : goal.vector-requires-in-loop-v
vector-requires-in-loop-v c =
    let b = c.args.known.now in
    let k = c.args.k in
    let v = c.v-item.result in
    let all = (vectors_pass b k [] (c.args.first.now ∷ c.args.others.now) c.requires.checks).1 in
    record { passed = subst (λ (u : Items). Passes (vector_in b (k + 1) u)) (sym c.v-item.is) (all_get_or (λ u. Passes (vector_in b (k + 1) u)) c.args.others.now c.loop-v.v-index v c.loop-v-test.true all) }

pub add-requires-in-loop-v-clause-width : goal.add-requires-in-loop-v-clause-width
add-requires-in-loop-v-clause-width c =
    let b = c.args.known.now in
    let k = c.args.k in
    let v = c.v-item.result in
    let all = (vectors_pass b k [] (c.args.first.now ∷ c.args.others.now) c.requires.checks).1 in
    let p = subst (λ (u : Items). Passes (vector_in b (k + 1) u)) (sym c.v-item.is) (all_get_or (λ u. Passes (vector_in b (k + 1) u)) c.args.others.now c.loop-v.v-index v c.loop-v-test.true all) in
    ap length (c.deref-in-loop-v.ensures.value ∙ c.in_ok-row-2.ensures.values) ∙ (point_is b k v p).0 ∙ sym c.loop-v.invariant.width

pub returns-clause-table : goal.returns-clause-table
returns-clause-table c =
    let b = c.args.known.now in
    let k = c.args.k in
    let first = c.args.first.now in
    let others = c.args.others.now in
    let all : c.loop-v.list.items ≡ vectors_of b (first ∷ others) = c.loop-v.invariant.items ∙ ap (λ vs. vectors_of b (first ∷ vs)) (take_all c.loop-v.v-index others (omega (arith, c.loop-v-test.false))) in
    subst (λ (vs : List Vector). (0 < length vs) × AllByRecursion (λ (v : Vector). (length v ≡ k + 1) × AllByRecursion (λ x. x < b.algebra.size) v) vs) (sym all)
    (omega arith, points_are b k (first ∷ others) (vectors_pass b k [] (first ∷ others) c.requires.checks))
