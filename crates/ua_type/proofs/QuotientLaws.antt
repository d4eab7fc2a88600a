-- The quotient by a congruence is an algebra, and a congruence above it is a partition of its elements.
use Rattle.std.proofs.Common.{◌≡◌, ℕ, ◌<◌, ◌≤◌, ◌^◌, List, [], ◌∷◌, length, map, get_or, refl, sym, ap, ◌∙◌, arith}
use Rattle.std.specs.Prelude.{slice_index}
use Rattle.std.specs.List.{AllByRecursion, range_with_len}
use Rattle.std.proofs.lemmas.List.{length-map, get_or-map, ext_get_or}
use Rattle.std.proofs.lemmas.List.FromFn.{length-map-range_with_len, get_or-map-range_with_len}
use Rattle.std.proofs.lemmas.Simd.{map-map}
use Rattle.ua_table.specs.Algebras.{Operation, FiniteAlgebra, IsAlgebra, IsOperation, arities_of, value_at, numeral}
use Rattle.ua_table.proofs.ApplyLaws.{value-below, numeral-below}
use Rattle.ua_table.proofs.Lists.{found, mapped_at}
use Rattle.ua_part.specs.Partitions.{Partition, IsPartition, LiesBelow, IsByLabels}
use Rattle.ua_part.specs.Blocks.{leaders}
use Rattle.ua_part.proofs.PartitionLaws.{leader_within, leaders_from_below, below_both}
use Rattle.ua_prod.specs.Congruences.{IsCongruence}
use Rattle.ua_prod.specs.Constructions.{value_of, tuples_among, blocks_below, renumbered}
use Rattle.ua_prod.proofs.BlockNumbers.{some_blocks, all_numbers}
use Rattle.ua_prod.proofs.ClashLaws.{arity_is, size_is, value_is}
use Rattle.ua_prod.proofs.RenumberingLaws.{all_mapped, read_below}
use Rattle.ua_prod.proofs.TupleLaws.{count_tuples, tuples_mapped}
use Rattle.ua_term.specs.Assignments.{IsAssignment}
use Rattle.ua_term.proofs.AssignmentLaws.{assignment_stands, assignment_below, length_assignments}
use Rattle.ua_type.specs.Quotients.{quotient_by, leader_of, image_of}
use Rattle.ua_type.proofs.LeaderLaws.{leader_is, number_leads, numbers_grow}

-- ---- the quotient

pub all_leaders_below : (p : Partition) (n : ℕ) → length p ≡ n → (xs : List ℕ) → AllByRecursion (λ k. k < length (leaders p)) xs → AllByRecursion (λ e. e < n) (map (leader_of p) xs)
all_leaders_below p n size [] h = tt
all_leaders_below p n size (x ∷ xs) h = (let l = (leader_is p x h.0).within in omega (arith, l, size), all_leaders_below p n size xs h.1)

-- the tuple of members that has the number of these places
tuple_at : (members : List ℕ) (xs : List ℕ) → AllByRecursion (λ k. k < length members) xs → get_or (tuples_among members (length xs)) (numeral (length members) xs) [] ≡ map (slice_index members) xs
tuple_at members xs h =
    let n = length members in
    let places = range_with_len 0 n in
    let assigned : IsAssignment n (length xs) xs = record { count = refl; elements = h } in
    let count = length-map-range_with_len (slice_index members) 0 n in
    let listed : map (slice_index members) places ≡ members = ext_get_or 0 (map (slice_index members) places) members count (λ i l. get_or-map-range_with_len (slice_index members) 0 n i i 0 (omega (arith, l, count)) (omega arith)) in
    let low = assignment_below n (length xs) xs assigned in
    let long = length_assignments n (length xs) in
    ap (λ (ms : List ℕ). get_or (tuples_among ms (length xs)) (numeral n xs) []) (sym listed)
    ∙ ap (λ (ts : List (List ℕ)). get_or ts (numeral n xs) []) (tuples_mapped (slice_index members) places (length xs))
    ∙ get_or-map (map (slice_index members)) (tuples_among places (length xs)) (numeral n xs) [] [] (omega (arith, low, long))
    ∙ ap (map (slice_index members)) (assignment_stands n (length xs) xs assigned)

pub same_arities : (members numbers : List ℕ) (os : List Operation) → map (λ (o : Operation). o.arity) (map (renumbered members numbers) os) ≡ map (λ (o : Operation). o.arity) os
same_arities members numbers os = map-map (λ (o : Operation). o.arity) (renumbered members numbers) os

module _ (a : FiniteAlgebra) (p : Partition) (alg : IsAlgebra a) (cp : IsCongruence a p) where
  abbrev numbers : List ℕ
  numbers = map (blocks_below p) p

  inhabited : 0 < length (leaders p)
  inhabited = (let n = cp.size in let i = alg.inhabited in some_blocks p cp.partition (omega (arith, n, i)))

  operations_kept : (os : List Operation) → AllByRecursion (λ (o : Operation). (o.size ≡ length (leaders p)) × IsOperation o) (map (renumbered (leaders p) numbers) os)
  operations_kept [] = tt
  operations_kept (o ∷ os) = (
    (
      refl,
      record {
        total = length-map (tuples_among (leaders p) o.arity) (λ args. slice_index numbers (value_of o args)) ∙ count_tuples (leaders p) o.arity;
        below =
            all_mapped (λ v. v < length (leaders p)) (λ args. slice_index numbers (value_of o args))
            (λ args. read_below (length (leaders p)) numbers (value_of o args) inhabited (all_numbers p cp.partition))
            (tuples_among (leaders p) o.arity);
      },
    ),
    operations_kept os,
  )

  pub quotient-IsAlgebra : IsAlgebra (quotient_by a p)
  quotient-IsAlgebra = record { inhabited = inhabited; operations = operations_kept a.operations }

  -- the value at some blocks is the block of the value at their leaders
  pub value_in_block : (f : ℕ) (xs : List ℕ) → f < length (arities_of a) → length xs ≡ slice_index (arities_of a) f
      → AllByRecursion (λ k. k < length (leaders p)) xs
      → leader_of p (value_at (quotient_by a p) f xs) ≡ slice_index p (value_at a f (map (leader_of p) xs))
  value_in_block f xs w count h =
      let fw : f < length a.operations = (let n = length-map a.operations (λ (o : Operation). o.arity) in omega (arith, w, n)) in
      let at = found a.operations f fw in
      let o = at.0 in
      let long : length xs ≡ o.arity = count ∙ arity_is a f o at.1 in
      let b = quotient_by a p in
      let read : List ℕ → ℕ = (λ args. slice_index numbers (value_of o args)) in
      let tuples = tuples_among (leaders p) o.arity in
      let low : numeral (length (leaders p)) xs < length tuples =
      (let l = numeral-below (length (leaders p)) xs h in
      let c = count_tuples (leaders p) o.arity in
      let e : length (leaders p) ^ length xs ≡ length (leaders p) ^ o.arity = ap (λ k. length (leaders p) ^ k) long in
      omega (arith, l, c, e)) in
      let leading = map (leader_of p) xs in
      let v = value-below a f leading alg w (length-map xs (leader_of p) ∙ count) (all_leaders_below p a.size cp.size xs h) in
      let n = cp.size in
      let vp : value_at a f leading < length p = omega (arith, v, n) in
      let own : slice_index p (value_at a f leading) < length p = leader_within p cp.partition (value_at a f leading) vp in
      let value_is_read : value_at b f xs ≡ read leading =
      value_is b f (renumbered (leaders p) numbers o) (mapped_at (renumbered (leaders p) numbers) a.operations f o at.1) xs
      ∙ get_or-map read tuples (numeral (length (leaders p)) xs) [] 0 low
      ∙ ap read (ap (λ k. get_or (tuples_among (leaders p) k) (numeral (length (leaders p)) xs) []) (sym long) ∙ tuple_at (leaders p) xs h) in
      let value_here : value_of o leading ≡ value_at a f leading = ap (λ m. slice_index o.values (numeral m leading)) (size_is a f o alg at.1) ∙ sym (value_is a f o at.1 leading) in
      ap (leader_of p) (value_is_read ∙ ap (slice_index numbers) value_here ∙ get_or-map (blocks_below p) p (value_at a f leading) 0 0 vp)
      ∙ (number_leads p (slice_index p (value_at a f leading)) own (cp.partition.least (value_at a f leading) vp)).1

-- ---- the image is the partition of the blocks by their leaders

module _ (a : FiniteAlgebra) (p q : Partition) (cp : IsCongruence a p) (cq : IsCongruence a q) (below : LiesBelow p q) where
  -- the block that leads a block
  record LeadsBlock (k : ℕ) : Type 0 where
    high : slice_index q (leader_of p k) ≤ leader_of p k
    within : slice_index q (leader_of p k) < length p
    own : slice_index q (slice_index q (leader_of p k)) ≡ slice_index q (leader_of p k)
    leads_itself : slice_index p (slice_index q (leader_of p k)) ≡ slice_index q (leader_of p k)

  leads_block : (k : ℕ) → k < length (leaders p) → LeadsBlock k
  leads_block k w =
      let l = (leader_is p k w).within in
      let n = cp.size in
      let m = cq.size in
      let lq : leader_of p k < length q = omega (arith, l, n, m) in
      let y = slice_index q (leader_of p k) in
      let low = cq.partition.low (leader_of p k) lq in
      let yp : y < length p = omega (arith, low, l) in
      let own : slice_index q y ≡ y = cq.partition.least (leader_of p k) lq in
      let py = leader_within p cp.partition y yp in
      let one = cp.partition.low y yp in
      let two = cq.partition.low (slice_index p y) (omega (arith, py, n, m)) in
      let same = leaders_from_below p q cp.partition below y yp in
      record { high = low; within = yp; own = own; leads_itself = omega (arith, one, two, same, own) }

  image_long : length (image_of p q) ≡ length (leaders p)
  image_long = length-map (leaders p) (λ leader. blocks_below p (slice_index q leader))

  image_at : (k : ℕ) → k < length (leaders p) → slice_index (image_of p q) k ≡ blocks_below p (slice_index q (leader_of p k))
  image_at k w = get_or-map (λ leader. blocks_below p (slice_index q leader)) (leaders p) k 0 0 w

  image_leads : (k : ℕ) → k < length (leaders p) → (slice_index (image_of p q) k < length (leaders p)) × (leader_of p (slice_index (image_of p q) k) ≡ slice_index q (leader_of p k))
  image_leads k w =
      let b = leads_block k w in
      let r = number_leads p (slice_index q (leader_of p k)) b.within b.leads_itself in
      let r0 = r.0 in
      let at = image_at k w in
      (omega (arith, r0, at), ap (leader_of p) at ∙ r.1)

  image-IsPartition : IsPartition (image_of p q)
  image-IsPartition = record {
    low = λ k w'.
        let w : k < length (leaders p) = omega (arith, w', image_long) in
        let b = leads_block k w in
        let grown = numbers_grow p (slice_index q (leader_of p k)) (leader_of p k) b.high in
        let number = (leader_is p k w).number in
        let at = image_at k w in
        omega (arith, grown, number, at);
    least = λ k w'.
        let w : k < length (leaders p) = omega (arith, w', image_long) in
        let r = image_leads k w in
        image_at (slice_index (image_of p q) k) r.0 ∙ ap (λ x. blocks_below p (slice_index q x)) r.1 ∙ ap (blocks_below p) (leads_block k w).own ∙ sym (image_at k w);
  }

  pub labels_long : length (map (slice_index q) (leaders p)) ≡ length (leaders p)
  labels_long = length-map (leaders p) (slice_index q)

  pub label_at : (k : ℕ) → k < length (leaders p) → slice_index (map (slice_index q) (leaders p)) k ≡ slice_index q (leader_of p k)
  label_at k w = get_or-map (slice_index q) (leaders p) k 0 0 w

  pub image-IsByLabels : IsByLabels (map (slice_index q) (leaders p)) (image_of p q)
  image-IsByLabels = record {
    partition = image-IsPartition;
    size = image_long ∙ sym labels_long;
    relates = λ k l. (
      (λ s.
          let left = s.left in
          let right = s.right in
          let kw : k < length (leaders p) = omega (arith, left, image_long) in
          let lw : l < length (leaders p) = omega (arith, right, image_long) in
          record {
            left = omega (arith, kw, labels_long);
            right = omega (arith, lw, labels_long);
            same = label_at k kw ∙ sym (image_leads k kw).1 ∙ ap (leader_of p) s.same ∙ (image_leads l lw).1 ∙ sym (label_at l lw);
          }),
      (λ s.
          let left = s.left in
          let right = s.right in
          let kw : k < length (leaders p) = omega (arith, left, labels_long) in
          let lw : l < length (leaders p) = omega (arith, right, labels_long) in
          record {
            left = omega (arith, kw, image_long);
            right = omega (arith, lw, image_long);
            same = image_at k kw ∙ ap (blocks_below p) (sym (label_at k kw) ∙ s.same ∙ label_at l lw) ∙ sym (image_at l lw);
          }),
    );
  }

-- labels make one partition
pub one_partition : (labels p q : List ℕ) → IsByLabels labels p → IsByLabels labels q → p ≡ q
one_partition labels p q hp hq = below_both p q hp.partition hq.partition (λ a b s. (hq.relates a b).1 ((hp.relates a b).0 s)) (λ a b s. (hp.relates a b).1 ((hq.relates a b).0 s))
