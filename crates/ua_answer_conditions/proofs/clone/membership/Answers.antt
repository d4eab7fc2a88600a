use Rattle.std.proofs.Common.{arith}
use Rattle.ua_answer_conditions.proofs.WrittenTables.{few_variables}
use Rattle.ua_answer_conditions.proofs.clone.membership.Goals as goal

pub overflow_cast-k : goal.overflow_cast-k
overflow_cast-k g c =
    let few = few_variables c.args.known.now c.args.k c.args.points.now c.requires.checks in
    omega (arith, few)
