use Rattle.std.proofs.Common.{◌≡◌, ℕ, ◌*◌, ◌<◌, ◌≤◌, length, take}
use Rattle.std.specs.Prelude.{slice_index, slice_set}
use Rattle.std.specs.List.{AllByRecursion}
use Rattle.ua_table.specs.Algebras.{numeral}
use Rattle.ua_columns.specs.inner.Tiles.{value_across}
use Rattle.ua_lanes.proofs.lines.line_at.Given as goal

abbrev pub invariant-loop-y : goal.invariant-loop-y
invariant-loop-y g l = record {
  long : length l.line ≡ g.row.PARTS;
  bytes : AllByRecursion (AllByRecursion (λ x. x < 256)) l.line;
  values : (k : ℕ) → k < l.y → value_across l.line k ≡ l.scale * slice_index l.table.values (numeral l.table.size (slice_set (take l.arity l.fn.args) l.free k));
  zeros : (k : ℕ) → l.y ≤ k → value_across l.line k ≡ 0;
}
