-- All matrices of two congruences, and matrices that decide centrality.
use Rattle.std.proofs.Common.{◌≡◌, ℕ, ◌≤◌, List, length, replicate, sym, subst, arith}
use Rattle.std.specs.List.{AllByRecursion}
use Rattle.ua_table.specs.Algebras.{Vector, FiniteAlgebra, IsAlgebra}
use Rattle.ua_table.specs.Listings.{vectors_of}
use Rattle.ua_close.specs.Answers.{IsWide}
use Rattle.ua_close.specs.Kinds.{cardinality}
use Rattle.ua_close.proofs.KindLaws.{closed_exists}
use Rattle.ua_part.specs.Partitions.{Partition}
use Rattle.ua_part.specs.Pairs.{related_pairs}
use Rattle.ua_prod.specs.Congruences.{IsCongruence}
use Rattle.ua_matrix.specs.declared.deltas.Delta.{Delta}
use Rattle.ua_matrix.specs.Matrices.{matrix_generators, AreMatrices, Goes, AreFour}
use Rattle.ua_matrix.specs.inner.Deltas.{leading_matrices}
use Rattle.ua_matrix.specs.Squares.{number_of, AreDeciding}
use Rattle.ua_matrix.specs.inner.Squares.{left_of, right_of, IsDeltaOf}
use Rattle.ua_matrix.proofs.MatrixLaws.{fourth_product, generators_vectors}
use Rattle.ua_matrix.proofs.DeltaDecides.{condition_from_blocks, blocks_from_condition, leading_from_blocks, blocks_from_leading, leading_four, few_matrices}

module _ (a : FiniteAlgebra) (alpha beta : Partition) (alg : IsAlgebra a) (ca : IsCongruence a alpha) (cb : IsCongruence a beta) where
  pub all_matrices : (matrices : List Vector) × AreMatrices a alpha beta matrices
  all_matrices =
      let p = replicate 4 a in
      let listed = closed_exists p (matrix_generators alpha beta) (fourth_product a alg) (generators_vectors a alpha beta ca cb) (cardinality p) (omega arith) in
      (vectors_of listed.rows, λ m. listed.closed.exact m)

  -- the leading matrices decide centrality
  pub leading_decide : (delta : Delta) (b : ℕ) (matrices : List Vector) → IsDeltaOf a alpha beta delta
      → ¬ IsWide (replicate 4 a) (matrix_generators alpha beta) b → length (related_pairs delta.blocks) ≤ b
      → matrices ≡ leading_matrices (left_of a.size delta.pairs.items) (right_of a.size delta.pairs.items) delta.blocks
      → AreDeciding a alpha beta b matrices
  leading_decide delta b matrices h narrow within is =
      let pairs = delta.pairs.items in
      let all = all_matrices in
      record {
        narrow = narrow;
        few = λ more. (let k = few_matrices a alpha beta (left_of a.size pairs) (right_of a.size pairs) (number_of a.size pairs) h.algebra delta.blocks ca cb h.is b more in omega (arith, k, within));
        four = subst (AllByRecursion (AreFour a.size)) (sym is) (leading_four a alpha beta (left_of a.size pairs) (right_of a.size pairs) (number_of a.size pairs) h.algebra delta.blocks ca cb h.is);
        decides = λ theta ct. (
          λ central. subst (AllByRecursion (Goes theta)) (sym is) (leading_from_blocks a alpha beta (left_of a.size pairs) (right_of a.size pairs) (number_of a.size pairs) h.algebra delta.blocks ca cb h.is theta
              (blocks_from_condition a alpha beta (left_of a.size pairs) (right_of a.size pairs) (number_of a.size pairs) h.algebra delta.blocks ca cb h.is all.0 all.1 theta ct central)),
          λ goes. condition_from_blocks a alpha beta (left_of a.size pairs) (right_of a.size pairs) (number_of a.size pairs) h.algebra delta.blocks ca cb h.is theta
              (blocks_from_leading a alpha beta (left_of a.size pairs) (right_of a.size pairs) (number_of a.size pairs) h.algebra delta.blocks ca cb h.is theta (subst (AllByRecursion (Goes theta)) is goes)),
        );
      }
