use Rattle.std.proofs.Common.{◌≡◌, ℕ}
use Rattle.ua_type.specs.inner.Marks.{AreMarks}
use Rattle.ua_type.proofs.leads.sweep.Given as goal

abbrev pub invariant-loop-i : goal.invariant-loop-i
invariant-loop-i l = (l.marks.size ≡ l.b.size) × ((target : ℕ × ℕ) → AreMarks l.b target l.fn.marks → AreMarks l.b target l.marks)
