use Rattle.ua_reply.specs.Operands.{variables_checks}
use Rattle.ua_answer_algebras.proofs.free.answer_free.Goals as goal

pub free_known-requires-after_bounds : goal.free_known-requires-after_bounds
free_known-requires-after_bounds g c = λ κs bounds. c.in_default-refusal.ensures.none (variables_checks c.args.count) c.variables_in.ensures
