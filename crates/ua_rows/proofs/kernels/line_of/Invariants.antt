use Rattle.std.proofs.Common.{◌≡◌, ℕ, ◌<◌, length, slice_index}
use Rattle.std.specs.List.{AllByRecursion}
use Rattle.ua_rows.proofs.kernels.line_of.Given as goal

abbrev pub invariant-loop-i : goal.invariant-loop-i
invariant-loop-i l = record {
  long : length l.line ≡ 16;
  small : AllByRecursion (λ x. x < 16) l.line;
  values : (x : ℕ) → x < l.i → slice_index l.line x ≡ slice_index l.values x;
}
