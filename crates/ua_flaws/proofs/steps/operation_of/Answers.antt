use Rattle.ua_flaws.proofs.NameLaws.{found_number, found_there, found_low, found_not}
use Rattle.ua_flaws.proofs.steps.operation_of.Goals as goal

pub returns-clause-some : goal.returns-clause-some
returns-clause-some c = found_number c.args.a.now c.args.word.now c.find_op.result c.size-size.ensures.algebra.names c.find_op.ensures.some

pub returns-clause-there : goal.returns-clause-there
returns-clause-there c = found_there c.args.a.now c.args.word.now c.find_op.result c.find_op.ensures.some

pub returns-clause-low : goal.returns-clause-low
returns-clause-low c = found_low c.args.a.now c.args.word.now c.find_op.result c.find_op.ensures.some

pub returns-clause-none : goal.returns-clause-none
returns-clause-none c = found_not c.args.a.now c.args.word.now c.find_op.result c.find_op.ensures.none
