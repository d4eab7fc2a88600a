use Rattle.std.proofs.Common.{ℕ, [], ◌∷◌, ◌++◌, sym, ap, ◌∙◌}
use Rattle.std.specs.Prelude.{slice_index, length}
use Rattle.ua_matrix.specs.Squares.{number_of}
use Rattle.ua_matrix.proofs.GeneratorLaws.{map_more}
use Rattle.ua_matrix.proofs.deltas.diagonal_pairs.Goals as goal

pub loop-u-preserved : goal.loop-u-preserved
loop-u-preserved c =
    let alpha = c.args.alpha.now in
    let pairs = c.args.pairs.now in
    let u = c.loop-u.u in
    let size = c.size-size.ensures.size in
    let first = c.diagonal-first.ensures ∙ ap (λ (n : ℕ). number_of n pairs u u) size in
    let second = c.diagonal-second.ensures ∙ ap (λ (n : ℕ). number_of n pairs c.rep.result c.rep.result) size ∙ ap (λ (v : ℕ). number_of (length alpha) pairs v v) c.rep.ensures.leader in
    c.in_ok-push.ensures.items
    ∙ (λ i. c.loop-u.invariant i ++ (first i, second i) ∷ [])
    ∙ sym (map_more (λ (v : ℕ). (number_of (length alpha) pairs v v, number_of (length alpha) pairs (slice_index alpha v) (slice_index alpha v))) u)
