use Rattle.ua_sub.proofs.TwinLaws.{generates_itself}
use Rattle.ua_sub.proofs.twins.first_found.Goals as goal

pub take_in-requires-clause-generated : goal.take_in-requires-clause-generated
take_in-requires-clause-generated c = (c.requires.element, generates_itself c.args.question.now.algebra.now c.args.question.now.element)
