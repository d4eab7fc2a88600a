use Rattle.std.proofs.Common.{ℕ, ◌<◌}
use Rattle.ua_prod.proofs.EscapeLaws.{KeepsAt}
use Rattle.ua_prod.proofs.escapes.first_escape.Given as goal

abbrev pub invariant-loop-op : goal.invariant-loop-op
invariant-loop-op l = (f : ℕ) → f < l.op → KeepsAt l.a l.renumbering.members.items f
