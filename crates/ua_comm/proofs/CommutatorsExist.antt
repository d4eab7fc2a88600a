-- That there is a commutator: the least congruence with which each matrix goes.
use Rattle.std.proofs.Common.{◌≡◌, ◌⊎◌, inl, inr, ⊎_elim, ℕ, ◌<◌, List, length, replicate, arith}
use Rattle.std.specs.Prelude.{Contains, slice_index}
use Rattle.std.specs.List.{AllByRecursion}
use Rattle.std.proofs.lemmas.Bool.{cases_eq}
use Rattle.std.proofs.lemmas.List.Elements.{All-from_recursion}
use Rattle.ua_table.specs.Algebras.{Vector, FiniteAlgebra, IsAlgebra}
use Rattle.ua_table.specs.Listings.{vectors_of}
use Rattle.ua_table.proofs.Lists.{all_at}
use Rattle.ua_close.specs.Kinds.{cardinality}
use Rattle.ua_close.proofs.KindLaws.{members_vectors, closed_exists}
use Rattle.ua_part.specs.Partitions.{Partition}
use Rattle.ua_prod.specs.Congruences.{IsCongruence}
use Rattle.ua_cong.proofs.LeastLaws.{all_or, same_or, IsLow, Asked, least_meeting}
use Rattle.ua_matrix.specs.Matrices.{AreFour, Goes, matrix_generators}
use Rattle.ua_matrix.proofs.MatrixLaws.{fourth_product, generators_vectors, rows_four}
use Rattle.ua_comm.specs.Commutators.{HasCommutator}
use Rattle.ua_comm.specs.Growths.{IsLeastGoing}
use Rattle.ua_comm.proofs.CommutatorLaws.{commutator_grown}

-- ---- the least congruence with which each matrix goes

module _ (a : FiniteAlgebra) (alg : IsAlgebra a) (ms : List Vector) (four : AllByRecursion (AreFour a.size) ms) where
  abbrev GoesWithAll : Partition → Type 0
  GoesWithAll p = AllByRecursion (Goes p) ms

  matrix_or : (p : Partition) → IsLow a alg GoesWithAll p → (m : Vector) → Contains ms m → Goes p m ⊎ Asked a alg GoesWithAll p
  matrix_or p h m c =
      ⊎_elim
      (λ e. inl (λ s. record { left = at 2 (omega arith); right = at 3 (omega arith); same = e }))
      (λ n. ⊎_elim
      (λ first.
      inr
      (record {
        x = slice_index m 2;
        y = slice_index m 3;
        left = at 2 (omega arith);
        right = at 3 (omega arith);
        apart = n;
        forced = λ q cq all.
            all_at (Goes q) ms m all c (h.within q cq all (slice_index m 0) (slice_index m 1) first);
      }))
      (λ other. inl (λ s. absurd (other s)))
      (same_or p (slice_index m 0) (slice_index m 1)))
      (cases_eq (slice_index p (slice_index m 2)) (slice_index p (slice_index m 3)))
    where
      at : (k : ℕ) → k < 4 → slice_index m k < length p
      at k w =
          let f = all_at (AreFour a.size) ms m four c in
          let low = All-from_recursion (λ x. x < a.size) m f.below k 0 (let n = f.width in omega (arith, w, n)) in
          let n = h.size in omega (arith, low, n)

  least_exists : (d : Partition) × IsLeastGoing a ms d
  least_exists =
      let d = least_meeting a alg GoesWithAll (λ p h. all_or (Goes p) (Asked a alg GoesWithAll p) ms (matrix_or p h)) in
      (d.0, record { congruence = d.1.congruence; goes = d.1.meets; least = d.1.least })

-- ---- the commutator

pub commutator_exists : (a : FiniteAlgebra) (alpha beta : Partition) → IsAlgebra a → IsCongruence a alpha → IsCongruence a beta → HasCommutator a alpha beta
commutator_exists a alpha beta alg ca cb =
    let p = replicate 4 a in
    let gens = matrix_generators alpha beta in
    let product = fourth_product a alg in
    let admitted = generators_vectors a alpha beta ca cb in
    let listed = closed_exists p gens product admitted (cardinality p) (omega arith) in
    let ms = vectors_of listed.rows in
    let least = least_exists a alg ms (rows_four a alpha beta (members_vectors p gens product admitted) listed.rows listed.closed.listing) in
    record { delta = least.0; is = commutator_grown a alpha beta least.0 ms (λ m. listed.closed.exact m) least.1 }
