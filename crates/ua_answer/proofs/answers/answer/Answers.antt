use Rattle.std.proofs.Common.{subst}
use Rattle.ua_answer.specs.Replies.{IsBuilt}
use Rattle.ua_answer.proofs.answers.answer.Goals as goal

pub answer_make-requires-after_bounds : goal.answer_make-requires-after_bounds
answer_make-requires-after_bounds g c κs within = (subst IsBuilt c.in-Make.is c.requires).1.1.0
