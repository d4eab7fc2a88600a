use Rattle.std.proofs.Common.{arith}
use Rattle.ua_type.proofs.MarkLaws.{number_within, square_small}
use Rattle.ua_type.proofs.marks.number_of.Goals as goal

pub overflow_mul-result : goal.overflow_mul-result
overflow_mul-result c =
    let within = number_within c.args.size c.args.pair.0 c.args.pair.1 c.requires.first c.requires.second in
    let small = square_small c.args.size c.requires.small in
    omega (arith, within, small)

pub overflow_add-result : goal.overflow_add-result
overflow_add-result c =
    let within = number_within c.args.size c.args.pair.0 c.args.pair.1 c.requires.first c.requires.second in
    let small = square_small c.args.size c.requires.small in
    omega (arith, within, small)

pub returns-clause-within : goal.returns-clause-within
returns-clause-within c = number_within c.args.size c.args.pair.0 c.args.pair.1 c.requires.first c.requires.second
