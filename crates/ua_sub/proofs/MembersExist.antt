-- That elements generate some elements, which a closed listing tells.
use Rattle.std.proofs.Common.{◌≡◌, ℕ, ◌<◌, List, [], ◌∷◌, length, map, refl, arith}
use Rattle.std.specs.Prelude.{slice_index}
use Rattle.std.specs.List.{AllByRecursion, AllZip}
use Rattle.ua_table.specs.Algebras.{Vector, FiniteAlgebra, Product, IsAlgebra, IsProduct}
use Rattle.ua_table.specs.Counting.{numbers_below}
use Rattle.ua_table.specs.Listings.{vectors_of}
use Rattle.ua_table.proofs.Counts.{each_once-below, each_once-numbers_below}
use Rattle.ua_table.proofs.Lists.{all_from_contains}
use Rattle.ua_close.specs.Kinds.{cardinality}
use Rattle.ua_close.proofs.KindLaws.{members_vectors, closed_exists}
use Rattle.ua_sub.specs.Members.{singles, AreMembers, HasMembers, HasOnes}
use Rattle.ua_sub.proofs.MemberLaws.{members_are, singles_admitted, one_entry}

-- vectors of one entry are those of their entries
singles_back : (vs : List Vector) → AllByRecursion (λ (v : Vector). length v ≡ 1) vs → singles (map (λ v. slice_index v 0) vs) ≡ vs
singles_back [] h = refl
singles_back (v ∷ vs) h = λ i. only v h.0 i ∷ singles_back vs h.1 i
  where
    only : (v : Vector) → length v ≡ 1 → (slice_index v 0 ∷ []) ≡ v
    only [] one = absurd (omega (arith, one))
    only (x ∷ []) one = refl
    only (x ∷ y ∷ v) one = absurd (omega (arith, one))

module _ (a : FiniteAlgebra) (alg : IsAlgebra a) where
  pub members_exist : (gens : List ℕ) → AllByRecursion (λ x. x < a.size) gens → HasMembers a gens
  members_exist gens low =
      let p : Product = a ∷ [] in
      let product : IsProduct p = record { wide = omega arith; algebras = (alg, tt); similar = (refl, tt) } in
      let admitted = singles_admitted a gens low in
      let listed = closed_exists p (singles gens) product admitted (cardinality p) (omega arith) in
      let vs = vectors_of listed.rows in
      let one = one_entry a gens (cardinality p) listed.rows (members_vectors p (singles gens) product admitted) listed.closed in
      record { members = map (λ (v : Vector). slice_index v 0) vs; are = members_are a gens (map (λ (v : Vector). slice_index v 0) vs) (cardinality p) listed.rows listed.closed (singles_back vs one) }

  ones_over : (xs : List ℕ) → AllByRecursion (λ x. x < a.size) xs → (lists : List (List ℕ)) × AllZip (λ x members. AreMembers a (x ∷ []) members) xs lists
  ones_over [] low = ([], tt)
  ones_over (x ∷ xs) low =
      let here = members_exist (x ∷ []) (low.0, tt) in
      let rest = ones_over xs low.1 in
      (here.members ∷ rest.0, (here.are, rest.1))

  pub ones_exist : HasOnes a
  ones_exist =
      let n = a.size in
      let r = ones_over (numbers_below n) (all_from_contains (λ x. x < n) (numbers_below n) (λ x c. (each_once-below n (numbers_below n) (each_once-numbers_below n) x).0 c)) in
      record { lists = r.0; are = r.1 }
