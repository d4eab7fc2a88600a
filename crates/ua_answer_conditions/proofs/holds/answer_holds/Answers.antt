use Rattle.ua_table.specs.declared.limits.TheConstants.{VARIABLES}
use Rattle.ua_reply.specs.Checks.{◌and◌}
use Rattle.ua_reply.specs.Operands.{term_in}
use Rattle.ua_answer_conditions.proofs.holds.answer_holds.Goals as goal

pub identity-answer-requires-clause-left : goal.identity-answer-requires-clause-left
identity-answer-requires-clause-left g c =
    let k = c.in-Some.known.now in
    let s = term_in k VARIABLES c.args.left.now in
    let t = term_in k VARIABLES c.args.right.now in
    let passes = c.in_default-refusal.ensures.none (s and t) (c.and-errors.ensures.first s t c.term_in.ensures c.term_in-2.ensures) in
    (c.and-errors.ensures.each s t passes).0

pub identity-answer-requires-clause-right : goal.identity-answer-requires-clause-right
identity-answer-requires-clause-right g c =
    let k = c.in-Some.known.now in
    let s = term_in k VARIABLES c.args.left.now in
    let t = term_in k VARIABLES c.args.right.now in
    let passes = c.in_default-refusal.ensures.none (s and t) (c.and-errors.ensures.first s t c.term_in.ensures c.term_in-2.ensures) in
    (c.and-errors.ensures.each s t passes).1
