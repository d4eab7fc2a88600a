use Rattle.ua_term.proofs.AssignmentLaws.{length_assignments, assignment_in, assignment_from, assignment_at, value_is_operation}
use Rattle.ua_term.proofs.laws.assignments.Goals as goal

pub returns : goal.returns
returns c = record {
  count = length_assignments;
  each = λ n k xs. (assignment_from n k xs, assignment_in n k xs);
  order = assignment_at;
  values = value_is_operation;
}
