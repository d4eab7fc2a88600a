use Rattle.std.proofs.Common.{ℕ, List, [], ◌∷◌, length, ap, ◌∙◌, arith, length-append}
use Rattle.ua_table.specs.VectorLists.{VectorList}
use Rattle.ua_matrix.specs.Deltas.{matrix_of_rows}
use Rattle.ua_matrix.specs.inner.Squares.{left_of, right_of}
use Rattle.ua_matrix.proofs.GeneratorLaws.{leading_more}
use Rattle.ua_matrix.proofs.leading.leading_matrices.Goals as goal

pub loop-place-preserved : goal.loop-place-preserved
loop-place-preserved c =
    let n = c.args.size in
    let pairs = c.args.delta.now.pairs.items in
    let delta = c.args.delta.now.blocks in
    let e = c.loop-place.place in
    let read = c.as_slice-pairs.ensures.value in
    let leader = c.rep-leader.ensures.leader in
    let one = ap (λ (v : VectorList). v.items) c.in_ok-add.ensures.ok in
    let two = ap (λ (v : VectorList). v.items) c.in_ok-add-2.ensures.ok in
    let first = c.matrix_of_rows.ensures ∙ ap (λ (ps : List ℕ). matrix_of_rows (left_of n ps) (right_of n ps) c.rep-leader.result e) read ∙ ap (λ (l : ℕ). matrix_of_rows (left_of n pairs) (right_of n pairs) l e) leader in
    let second = c.matrix_of_rows-in-loop-place.ensures ∙ ap (λ (ps : List ℕ). matrix_of_rows (left_of n ps) (right_of n ps) e c.rep-leader.result) read ∙ ap (λ (l : ℕ). matrix_of_rows (left_of n pairs) (right_of n pairs) e l) leader in
    let long = ap length one ∙ length-append c.loop-place.matrices.items (c.matrix_of_rows.result ∷ []) in
    let longer = ap length two ∙ length-append c.add.new.self.items (c.matrix_of_rows-in-loop-place.result ∷ []) in
    let before = c.loop-place.invariant.count in
    record {
      width = ap (λ (v : VectorList). v.width) c.in_ok-add-2.ensures.ok ∙ ap (λ (v : VectorList). v.width) c.in_ok-add.ensures.ok ∙ c.loop-place.invariant.width;
      count = omega (arith, long, longer, before);
      items =
          leading_more (left_of n pairs) (right_of n pairs) delta e c.loop-place.matrices.items c.add.new.self.items
          c.add-in-loop-place.new.self.items c.matrix_of_rows.result c.matrix_of_rows-in-loop-place.result c.loop-place.invariant.items one two first
          second;
    }
