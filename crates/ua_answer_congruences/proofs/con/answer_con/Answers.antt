use Rattle.std.proofs.Common.{Some, refl, sym, ap, ◌∙◌, subst}
use Rattle.std.proofs.lemmas.Result.{IfOk-weaker}
use Rattle.ua_table.specs.Algebras.{FiniteAlgebra}
use Rattle.ua_lattice.specs.Answers.{IsLatticeOf}
use Rattle.ua_reply.specs.Sessions.{bounds_of, lookup}
use Rattle.ua_reply.specs.Checks.{passed}
use Rattle.ua_reply.proofs.Answering.{known_answered}
use Rattle.ua_answer_congruences.specs.ConCommand.{ConAnswer}
use Rattle.ua_answer_congruences.proofs.con.answer_con.Goals as goal

pub returns : goal.returns
returns g c =
    let s = c.args.context.now.session.now in
    let b = bounds_of c.args.context.now.run.now in
    let k = c.in-Some.known.now in
    let known = sym (c.in-Some.ensures ∙ ap (lookup s) c.text.ensures.text) in
    let lattice = c.in_ok-lattice.lattice in
    let permitted = subst (λ (a : FiniteAlgebra). IsLatticeOf a b.budget lattice) c.algebra.ensures c.in_ok-lattice.ensures in
    IfOk-weaker c.lattice_reply.result _ _
    (λ v text. known_answered s c.args.algebra.now (λ k. passed) (λ k. ConAnswer k b) k v.items known refl (record { answer = lattice; permitted = permitted; told = ap Some (sym text) }))
    c.lattice_reply.ensures
