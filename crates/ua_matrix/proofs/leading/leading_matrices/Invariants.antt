use Rattle.std.proofs.Common.{◌≡◌, ◌*◌, [], ◌∷◌, length}
use Rattle.std.specs.Prelude.{slice_index}
use Rattle.std.specs.List.{flat_map, range_with_len}
use Rattle.ua_matrix.specs.Deltas.{matrix_of_rows}
use Rattle.ua_matrix.specs.inner.Squares.{left_of, right_of}
use Rattle.ua_matrix.proofs.leading.leading_matrices.Given as goal

abbrev pub invariant-loop-place : goal.invariant-loop-place
invariant-loop-place l = record {
  width : l.matrices.width ≡ 4;
  count : length l.matrices.items ≡ 2 * l.place;
  items : l.matrices.items
      ≡ flat_map
      (λ e.
      matrix_of_rows (left_of l.size l.delta.pairs.items) (right_of l.size l.delta.pairs.items) (slice_index l.delta.blocks e) e
      ∷ matrix_of_rows (left_of l.size l.delta.pairs.items) (right_of l.size l.delta.pairs.items) e (slice_index l.delta.blocks e) ∷ [])
      (range_with_len 0 l.place);
}
