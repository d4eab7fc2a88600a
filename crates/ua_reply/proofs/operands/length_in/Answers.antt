use Rattle.ua_reply.proofs.OperandLaws.{length_passed}
use Rattle.ua_reply.proofs.operands.length_in.Goals as goal

pub returns-then-as_slice-width-clause-length : goal.returns-then-as_slice-width-clause-length
returns-then-as_slice-width-clause-length c = length_passed c.args.width c.args.v.now

pub returns-else-as_slice-width-clause-length : goal.returns-else-as_slice-width-clause-length
returns-else-as_slice-width-clause-length c = length_passed c.args.width c.args.v.now
