-- What an answer says of the terms that meet a condition.
use Rattle.std.specs.Prelude.{Result, Ok, Err}
use Rattle.ua_table.specs.Algebras.{FiniteAlgebra, arities_of}
use Rattle.ua_table.specs.Terms.{Tree, IsTerm}
use Rattle.ua_term.specs.Steps.{StepList, WriteTerm}
use Rattle.ua_close.specs.declared.close.CloseError.{CloseError}
use Rattle.ua_close.specs.declared.memberships.Answer.{Answer}
use Rattle.ua_close.specs.declared.memberships.Answer.TheVariants.{Yes, No, Exceeds}
use Rattle.ua_identity.specs.Conditions.{TermCondition, Meets, IsMet}

-- the last of the steps writes a term that meets the condition, at every assignment of elements
pub record WriteMeeting (a : FiniteAlgebra) (c : TermCondition) (s : StepList) : Type 0 where
  pub term : Tree
  pub last : WriteTerm s term
  pub is_term : IsTerm (arities_of a) c.arity term
  pub meets : Meets a term c

-- with yes the steps write a term that meets the condition, and with no none does
abbrev pub Decides : FiniteAlgebra → TermCondition → Result Answer CloseError → Type 0
Decides a c (Ok (Yes steps)) = WriteMeeting a c steps
Decides a c (Ok (No rows)) = ¬ IsMet a c
Decides a c (Ok (Exceeds rows)) = Unit {0}
Decides a c (Err error) = Unit {0}
