use Rattle.std.proofs.Common.{List, ℕ, sym, subst}
use Rattle.std.proofs.lemmas.Result.{IfOk-weaker}
use Rattle.ua_table.specs.Algebras.{IsVector}
use Rattle.ua_reply.specs.Operands.{power_of}
use Rattle.ua_reply.proofs.OperandLaws.{entries_pass, vector_admitted}
use Rattle.ua_reply.proofs.operands.vector.Goals as goal

pub elements-requires : goal.elements-requires
elements-requires c = record { passed = entries_pass c.args.known.now c.args.width c.args.v.now c.requires.passed }

pub returns-clause-admitted : goal.returns-clause-admitted
returns-clause-admitted c =
    let k = c.args.known.now in
    let admitted = vector_admitted k c.args.width c.args.v.now c.requires.passed in
    IfOk-weaker c.elements.result _ _ (λ row is. subst (λ (v : List ℕ). IsVector (power_of k c.args.width) v) (sym is) admitted) c.elements.ensures.values
