use Rattle.ua_reply.specs.Parts.{part_in}
use Rattle.ua_reply.specs.Checks.{◌and◌}
use Rattle.ua_answer_congruences.proofs.central.answer_central.Goals as goal

pub central_known-requires-clause-alpha : goal.central_known-requires-clause-alpha
central_known-requires-clause-alpha g c κs within =
    let alpha = part_in c.in-Some.known.now c.args.alpha.now in
    let beta = part_in c.in-Some.known.now c.args.beta.now in
    let delta = part_in c.in-Some.known.now c.args.delta.now in
    let both = c.and.ensures.first alpha beta c.in_ok-part_in.ensures c.in_ok-part_in-2.ensures in
    let none = c.in_default-refusal.ensures.none (alpha and beta and delta) (c.and-errors.ensures.first (alpha and beta) delta both c.in_ok-part_in-3.ensures) in
    (c.and.ensures.each alpha beta (c.and-errors.ensures.each (alpha and beta) delta none).0).0

pub central_known-requires-clause-beta : goal.central_known-requires-clause-beta
central_known-requires-clause-beta g c κs within =
    let alpha = part_in c.in-Some.known.now c.args.alpha.now in
    let beta = part_in c.in-Some.known.now c.args.beta.now in
    let delta = part_in c.in-Some.known.now c.args.delta.now in
    let both = c.and.ensures.first alpha beta c.in_ok-part_in.ensures c.in_ok-part_in-2.ensures in
    let none = c.in_default-refusal.ensures.none (alpha and beta and delta) (c.and-errors.ensures.first (alpha and beta) delta both c.in_ok-part_in-3.ensures) in
    (c.and.ensures.each alpha beta (c.and-errors.ensures.each (alpha and beta) delta none).0).1

pub central_known-requires-clause-delta : goal.central_known-requires-clause-delta
central_known-requires-clause-delta g c κs within =
    let alpha = part_in c.in-Some.known.now c.args.alpha.now in
    let beta = part_in c.in-Some.known.now c.args.beta.now in
    let delta = part_in c.in-Some.known.now c.args.delta.now in
    let both = c.and.ensures.first alpha beta c.in_ok-part_in.ensures c.in_ok-part_in-2.ensures in
    let none = c.in_default-refusal.ensures.none (alpha and beta and delta) (c.and-errors.ensures.first (alpha and beta) delta both c.in_ok-part_in-3.ensures) in
    (c.and-errors.ensures.each (alpha and beta) delta none).1
