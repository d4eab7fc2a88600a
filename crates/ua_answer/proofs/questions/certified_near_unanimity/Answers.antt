use Rattle.ua_answer.proofs.QuestionsExist.{places_of}
use Rattle.ua_answer.proofs.questions.certified_near_unanimity.Goals as goal

pub certified_condition-requires-clause-places : goal.certified_condition-requires-clause-places
certified_condition-requires-clause-places g c κs within = places_of c.args.k c.requires
