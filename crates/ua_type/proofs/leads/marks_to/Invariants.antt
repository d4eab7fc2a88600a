use Rattle.ua_type.specs.inner.Marks.{AreMarks}
use Rattle.ua_type.proofs.leads.marks_to.Given as goal

abbrev pub invariant-loop : goal.invariant-loop
invariant-loop l = AreMarks l.b l.fn.pair l.marks
