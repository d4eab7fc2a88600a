use Rattle.std.proofs.Common.{◌≡◌}
use Rattle.ua_type.specs.inner.Descents.{IsDescent}
use Rattle.ua_type.specs.inner.Marks.{AreMarks}
use Rattle.ua_type.proofs.DescentLaws.{GoBackBelow}
use Rattle.ua_type.proofs.descents.sift.Given as goal

abbrev pub invariant-loop-i : goal.invariant-loop-i
invariant-loop-i g l =
    (l.descent.pair ≡ l.fn.descent.pair) × (l.descent.list ≡ l.fn.descent.list) × IsDescent l.b l.run.budget l.descent × GoBackBelow l.b l.descent l.i × AreMarks l.b l.fn.descent.pair l.marks
