-- From the congruences that are found to their list in order.
use Rattle.std.proofs.Common.{◌≡◌, ℕ, ◌+◌, ◌<◌, List, length, ◌∙◌}
use Rattle.std.specs.List.{AllByRecursion}
use Rattle.std.proofs.lemmas.List.Sorted.{length_permutation, Contains-permutation, IsPermutation-sym}
use Rattle.ua_table.specs.Algebras.{FiniteAlgebra}
use Rattle.ua_table.proofs.Lists.{all_at, all_from_contains, all_permutation}
use Rattle.ua_part.specs.Partitions.{Partition, identity_on}
use Rattle.ua_prod.specs.Congruences.{IsCongruence}
use Rattle.ua_cong.specs.Principals.{HasPrincipals}
use Rattle.ua_lattice.specs.Lattices.{IsCongruenceList, AreCovers, IsExceedingList}
use Rattle.ua_lattice.specs.inner.Joins.{IsSpanned, IsSpannedLattice, AreAmong}
use Rattle.ua_lattice.specs.inner.Ordering.{IsArranged}
use Rattle.ua_lattice.proofs.JoinedLaws.{all_joins}

module _ (rows list : List Partition) (h : IsArranged rows list) where
  into_list : AreAmong rows list
  into_list p c = Contains-permutation rows list p h.permutation c

  from_list : AreAmong list rows
  from_list p c = Contains-permutation list rows p (IsPermutation-sym rows list h.permutation) c

  pub arranged_length : length list ≡ length rows
  arranged_length = length_permutation rows list h.permutation

  module _ (a : FiniteAlgebra) where
    pub arranged_principals : (parts : List Partition) → HasPrincipals a parts → AreAmong parts rows → HasPrincipals a list
    arranged_principals parts all among x y order within = let k = all x y order within in (k.0, into_list k.0 (among k.0 k.1), k.2)

    pub arranged_congruences : AllByRecursion (IsCongruence a) rows → AllByRecursion (IsCongruence a) list
    arranged_congruences = all_permutation (IsCongruence a) rows list h.permutation

    pub exceeding_list : (budget : ℕ) → AllByRecursion (IsCongruence a) rows → length rows ≡ budget + 1 → IsExceedingList a budget list
    exceeding_list budget all beyond = record {
      congruences = record { in_order = h.in_order; congruences = arranged_congruences all };
      beyond = arranged_length ∙ beyond;
    }

    module _ (generators : List Partition) (s : IsSpannedLattice a generators rows) where
      pub spanned_list : IsSpannedLattice a generators list
      spanned_list = record {
        identity = into_list (identity_on a.size) s.identity;
        congruences = arranged_congruences s.congruences;
        closed = λ p q cp cq. let r = s.closed p q (from_list p cp) (from_list q cq) in (r.0, into_list r.0 r.1, r.2);
        generating = s.generating;
        spanned = all_permutation (IsSpanned generators) rows list h.permutation s.spanned;
      }

      pub congruence_list : (parts : List Partition) → HasPrincipals a parts → AreAmong parts rows → IsCongruenceList a list
      congruence_list parts all among = record {
        in_order = h.in_order;
        all = λ p. (
          (λ c. all_at (IsCongruence a) rows p s.congruences (from_list p c)),
          (λ hp. into_list p (all_joins a rows s.identity (λ x y order within. let k = all x y order within in (k.0, among k.0 k.1, k.2)) s.closed p hp)),
        );
      }

-- the places in the covers are places of the list
pub covers_within : (a : FiniteAlgebra) (list : List Partition) (covers : List (ℕ × ℕ)) → AreCovers a list covers → AllByRecursion (λ (pair : ℕ × ℕ). pair.1 < length list) covers
covers_within a list covers h = all_from_contains (λ (pair : ℕ × ℕ). pair.1 < length list) covers (λ pair c. ((h.all pair.0 pair.1).0 c).1)
