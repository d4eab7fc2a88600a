use Rattle.std.proofs.Common.{◌≡◌, ℕ, List, length, sym, ap, ◌∙◌, subst, arith}
use Rattle.std.specs.List.{AllByRecursion}
use Rattle.std.proofs.lemmas.List.{length-map}
use Rattle.std.proofs.lemmas.Grind.{common_steps}
use Rattle.ua_table.specs.Algebras.{Vector, IsVector}
use Rattle.ua_reply.specs.Operands.{value_of, vectors_of, power_of, vector_in}
use Rattle.ua_reply.proofs.CheckLaws.{one_passes}
use Rattle.ua_reply.proofs.OperandLaws.{vector_length, vectors_admitted}
use Rattle.ua_reply.proofs.operands.vectors.Goals as goal

pub vector-requires : goal.vector-requires
vector-requires c =
    record { passed = one_passes (vector_in c.args.known.now c.args.width) c.args.vs.now c.loop-v.v-index c.v-item.result c.requires.passed c.loop-v-test.true c.v-item.is }

pub add-requires-clause-width : goal.add-requires-clause-width
add-requires-clause-width c =
    let k = c.args.known.now in
    let v = c.v-item.result in
    let one = one_passes (vector_in k c.args.width) c.args.vs.now c.loop-v.v-index v c.requires.passed c.loop-v-test.true c.v-item.is in
    ap (length {A = ℕ}) (c.deref.ensures.value ∙ c.in_ok-row.ensures.values) ∙ length-map v.values (value_of k) ∙ vector_length k c.args.width v one ∙ sym c.loop-v.invariant.width

pub returns-clause-admitted : goal.returns-clause-admitted
returns-clause-admitted c =
    let k = c.args.known.now in
    let e : c.loop-v.list.items ≡ vectors_of k c.args.vs.now = grind (arith, common_steps) in
    subst (λ (vs : List Vector). AllByRecursion (IsVector (power_of k c.args.width)) vs) (sym e) (vectors_admitted k c.args.width c.args.vs.now c.requires.passed)
