use Rattle.std.proofs.Common.{◌<◌, List, length, sym, subst}
use Rattle.ua_operands.specs.declared.written.IdentityText.{IdentityText}
use Rattle.ua_answer.specs.Replies.{IsPlainBuilt}
use Rattle.ua_answer.proofs.QuestionsExist.{has_few}
use Rattle.ua_answer.proofs.answers.answer_plain.Goals as goal

pub answer_asked-requires-after_bounds : goal.answer_asked-requires-after_bounds
answer_asked-requires-after_bounds g c κs within = has_few c.in-Ask.what c.in-Ask.mode (subst IsPlainBuilt c.in-Ask.is c.requires).1.1

pub answer_sub-requires-after_bounds : goal.answer_sub-requires-after_bounds
answer_sub-requires-after_bounds g c κs within = (subst IsPlainBuilt c.in-Sub.is c.requires).1.1.1.0

pub answer_hom-requires-after_bounds : goal.answer_hom-requires-after_bounds
answer_hom-requires-after_bounds g c κs within = (subst IsPlainBuilt c.in-Hom.is c.requires).1.1.1.1.0

pub answer_condition-requires-after_bounds : goal.answer_condition-requires-after_bounds
answer_condition-requires-after_bounds g c κs within =
    subst (λ (is : List IdentityText). 0 < length is) (sym c.as_slice-in-Condition.ensures) (subst IsPlainBuilt c.in-Condition.is c.requires).1.1.1.1.0

pub answer_clone-requires-after_bounds : goal.answer_clone-requires-after_bounds
answer_clone-requires-after_bounds g c κs within = (subst IsPlainBuilt c.in-Clone.is c.requires).1.1.1.1.1.0
