use Rattle.ua_reply.specs.Checks.{◌and◌}
use Rattle.ua_reply.specs.Operands.{positive, vectors_in}
use Rattle.ua_answer_algebras.proofs.close.answer_close.Goals as goal

pub close_known-requires-clause-width : goal.close_known-requires-clause-width
close_known-requires-clause-width g c κs within =
    let w = positive c.args.width in
    let vs = vectors_in c.in-Some.known.now c.args.width.value c.args.gens.now in
    let passes = c.in_default-refusal.ensures.none (w and vs) (c.and-errors.ensures.first w vs c.positive.ensures c.vectors_in.ensures) in
    (c.and-errors.ensures.each w vs passes).0

pub close_known-requires-clause-gens : goal.close_known-requires-clause-gens
close_known-requires-clause-gens g c κs within =
    let w = positive c.args.width in
    let vs = vectors_in c.in-Some.known.now c.args.width.value c.args.gens.now in
    let passes = c.in_default-refusal.ensures.none (w and vs) (c.and-errors.ensures.first w vs c.positive.ensures c.vectors_in.ensures) in
    (c.and-errors.ensures.each w vs passes).1
