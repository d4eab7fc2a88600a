use Rattle.std.proofs.Common.{sym, subst}
use Rattle.ua_reply.specs.Checks.{◌and◌, Passes}
use Rattle.ua_reply.specs.Operands.{positive, vector_in, vectors_in}
use Rattle.ua_reply.proofs.CheckLaws.{parts_pass}
use Rattle.ua_answer.specs.Questions.{question_checks}
use Rattle.ua_answer.proofs.questions.certified_known.Goals as goal

pub certified_closure-requires-clause-width : goal.certified_closure-requires-clause-width
certified_closure-requires-clause-width g c κs within =
    let k = c.args.known.now in
    let q = c.in-Close in
    (parts_pass (positive q.width) (vectors_in k q.width.value q.gens) (subst (λ what. Passes (question_checks k what)) q.is c.requires.passed)).0

pub certified_closure-requires-clause-gens : goal.certified_closure-requires-clause-gens
certified_closure-requires-clause-gens g c κs within =
    let k = c.args.known.now in
    let q = c.in-Close in
    let passes = parts_pass (positive q.width) (vectors_in k q.width.value q.gens) (subst (λ what. Passes (question_checks k what)) q.is c.requires.passed) in
    subst (λ gens. Passes (vectors_in k q.width.value gens)) (sym c.as_slice.ensures) passes.1

pub certified_membership-requires-clause-width : goal.certified_membership-requires-clause-width
certified_membership-requires-clause-width g c κs within =
    let k = c.args.known.now in
    let q = c.in-Member in
    let w = positive q.width in
    let vs = vectors_in k q.width.value q.gens in
    let passes = parts_pass (w and vs) (vector_in k q.width.value q.target) (subst (λ what. Passes (question_checks k what)) q.is c.requires.passed) in
    (parts_pass w vs passes.0).0

pub certified_membership-requires-clause-gens : goal.certified_membership-requires-clause-gens
certified_membership-requires-clause-gens g c κs within =
    let k = c.args.known.now in
    let q = c.in-Member in
    let w = positive q.width in
    let vs = vectors_in k q.width.value q.gens in
    let passes = parts_pass (w and vs) (vector_in k q.width.value q.target) (subst (λ what. Passes (question_checks k what)) q.is c.requires.passed) in
    subst (λ gens. Passes (vectors_in k q.width.value gens)) (sym c.as_slice-in-Member.ensures) (parts_pass w vs passes.0).1

pub certified_membership-requires-clause-target : goal.certified_membership-requires-clause-target
certified_membership-requires-clause-target g c κs within =
    let k = c.args.known.now in
    let q = c.in-Member in
    let vs = vectors_in k q.width.value q.gens in
    (parts_pass (positive q.width and vs) (vector_in k q.width.value q.target) (subst (λ what. Passes (question_checks k what)) q.is c.requires.passed)).1
