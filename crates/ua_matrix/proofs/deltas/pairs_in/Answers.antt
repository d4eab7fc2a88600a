use Rattle.std.proofs.Common.{ℕ, List, [], ◌∷◌, ◌++◌, cond, sym, ap, ◌∙◌}
use Rattle.std.specs.Prelude.{slice_index, length, ◌==◌}
use Rattle.ua_part.proofs.BlockLaws.{passed_more}
use Rattle.ua_prod.specs.Constructions.{first_of, second_of}
use Rattle.ua_matrix.proofs.deltas.pairs_in.Goals as goal

pub loop-pair-preserved : goal.loop-pair-preserved
loop-pair-preserved c =
    let p = c.args.part.now in
    let pair = c.loop-pair.pair in
    c.in_ok-push_pair.ensures
    ∙ ap (λ (n : ℕ). c.loop-pair.pairs.items ++ cond (slice_index p (first_of n pair) == slice_index p (second_of n pair)) (pair ∷ []) []) c.size-size.ensures.size
    ∙ ap (λ (ps : List ℕ). ps ++ cond (slice_index p (first_of (length p) pair) == slice_index p (second_of (length p) pair)) (pair ∷ []) []) c.loop-pair.invariant
    ∙ sym (passed_more (λ k. slice_index p (first_of (length p) k) == slice_index p (second_of (length p) k)) pair)
