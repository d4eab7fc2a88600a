use Rattle.std.proofs.Common.{ℕ, ◌<◌, []}
use Rattle.std.specs.Prelude.{slice_index_or}
use Rattle.ua_matrix.specs.Matrices.{Fails}
use Rattle.ua_matrix.proofs.failures.failing.Given as goal

abbrev pub invariant-loop-i : goal.invariant-loop-i
invariant-loop-i l = (j : ℕ) → j < l.i → ¬ Fails l.delta (slice_index_or l.matrices.items j [])
