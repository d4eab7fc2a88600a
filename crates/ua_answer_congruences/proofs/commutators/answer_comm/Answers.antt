use Rattle.ua_reply.specs.Parts.{part_in}
use Rattle.ua_reply.specs.Checks.{◌and◌}
use Rattle.ua_answer_congruences.proofs.commutators.answer_comm.Goals as goal

pub comm_known-requires-clause-alpha : goal.comm_known-requires-clause-alpha
comm_known-requires-clause-alpha g c κs within =
    let alpha = part_in c.in-Some.known.now c.args.alpha.now in
    let beta = part_in c.in-Some.known.now c.args.beta.now in
    let none = c.in_default-refusal.ensures.none (alpha and beta) (c.and-errors.ensures.first alpha beta c.in_ok-part_in.ensures c.in_ok-part_in-2.ensures) in
    (c.and-errors.ensures.each alpha beta none).0

pub comm_known-requires-clause-beta : goal.comm_known-requires-clause-beta
comm_known-requires-clause-beta g c κs within =
    let alpha = part_in c.in-Some.known.now c.args.alpha.now in
    let beta = part_in c.in-Some.known.now c.args.beta.now in
    let none = c.in_default-refusal.ensures.none (alpha and beta) (c.and-errors.ensures.first alpha beta c.in_ok-part_in.ensures c.in_ok-part_in-2.ensures) in
    (c.and-errors.ensures.each alpha beta none).1
