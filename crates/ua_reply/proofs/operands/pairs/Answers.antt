use Rattle.std.proofs.Common.{◌≡◌, ℕ, List, sym, subst, arith}
use Rattle.std.specs.List.{AllByRecursion}
use Rattle.std.proofs.lemmas.Grind.{common_steps}
use Rattle.ua_reply.specs.Operands.{pairs_of, IsPairIn, vector_in}
use Rattle.ua_reply.proofs.CheckLaws.{one_passes}
use Rattle.ua_reply.proofs.OperandLaws.{pairs_below}
use Rattle.ua_reply.proofs.operands.pairs.Goals as goal

pub pair-requires : goal.pair-requires
pair-requires c = one_passes (vector_in c.args.known.now 2) c.args.vs.now c.loop-v.v-index c.v-item.result c.requires.passed c.loop-v-test.true c.v-item.is

pub returns-clause-below : goal.returns-clause-below
returns-clause-below c =
    let k = c.args.known.now in
    let e : c.loop-v.list.items ≡ pairs_of k c.args.vs.now = grind (arith, common_steps) in
    subst (λ (ps : List (ℕ × ℕ)). AllByRecursion (IsPairIn k) ps) (sym e) (pairs_below k c.args.vs.now c.requires.passed)
