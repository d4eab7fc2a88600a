-- What may be answered when it is asked whether some term meets a condition, with the refusals.
use Rattle.std.specs.Prelude.{ℕ, Result}
use Rattle.ua_table.specs.Algebras.{FiniteAlgebra}
use Rattle.ua_close.specs.declared.close.CloseError.{CloseError}
use Rattle.ua_close.specs.declared.memberships.Answer.{Answer}
use Rattle.ua_close.specs.Permitted.{MayMember}
use Rattle.ua_identity.specs.Conditions.{TermCondition}
use Rattle.ua_identity.specs.Patterns.{condition_power, argument_vectors, value_vector}
use Rattle.ua_cond.specs.Decisions.{Decides}

-- what may be answered when it is asked whether the vectors of the arguments generate that of the values, which is the answer for terms: yes writes one that meets the condition, and with no none does
abbrev pub MayDecide : FiniteAlgebra → TermCondition → ℕ → ℕ → Result Answer CloseError → Type 0
MayDecide a c b w result = MayMember (condition_power a c) (argument_vectors a c) (value_vector a c) b w result × Decides a c result
