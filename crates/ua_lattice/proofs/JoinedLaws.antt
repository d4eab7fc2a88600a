-- Joins of congruences.
use Rattle.std.proofs.Common.{◌≡◌, ℕ, zero, suc, ◌<◌, ◌≤◌, List, ◌∷◌, ◌++◌, length, sym, ◌∙◌, subst, arith, ⊎_elim, length-append}
use Rattle.std.specs.Prelude.{slice_index, Contains}
use Rattle.std.proofs.lemmas.Bool.{cases_lt}
use Rattle.std.proofs.lemmas.List.FromFn.{length-range_with_len}
use Rattle.std.proofs.lemmas.List.Elements.{Contains-append_left, Contains-append_cases}
use Rattle.ua_table.specs.Algebras.{FiniteAlgebra, IsAlgebra, value_at}
use Rattle.ua_table.proofs.ApplyLaws.{value-below}
use Rattle.ua_table.proofs.Lists.{all_append, all_front, all_back}
use Rattle.ua_part.specs.Partitions.{Partition, IsPartition, SameBlock, LiesBelow, IsJoin, identity_on}
use Rattle.ua_part.proofs.PartitionLaws.{same_itself, same_back, leader_same, below_through, below_from_leaders, below_both, identity-IsPartition, identity-same}
use Rattle.ua_prod.specs.Congruences.{IsCongruence}
use Rattle.ua_prod.proofs.Compatible.{congruence_from_translations}
use Rattle.ua_cong.proofs.Normal.{join-size, join-constant}
use Rattle.ua_cong.proofs.ClosingLaws.{around_pair}
use Rattle.ua_cong.specs.Principals.{HasPrincipals}
use Rattle.ua_lattice.specs.Lattices.{IsJoinClosed, IsJoinedWith}

-- ---- the join of congruences is one

pub join-IsCongruence : (a : FiniteAlgebra) (p q r : Partition) → IsAlgebra a → IsCongruence a p → IsCongruence a q → IsJoin p q r → IsCongruence a r
join-IsCongruence a p q r alg hp hq j =
    let same : length p ≡ length q = hp.size ∙ sym hq.size in
    let long : length r ≡ a.size = join-size p q r same j ∙ hp.size in
    congruence_from_translations a r alg j.partition long (λ f x y ps ss w count below yn s.
    let front = all_front (λ e. e < a.size) ps (x ∷ ss) below in
    let back = all_back (λ e. e < a.size) ps (x ∷ ss) below in
    let n = length-append ps (x ∷ ss) in
    let n' = length-append ps (y ∷ ss) in
    let one = value-below a f (ps ++ x ∷ ss) alg w count below in
    let two = value-below a f (ps ++ y ∷ ss) alg w (omega (arith, n, n', count)) (all_append (λ e. e < a.size) ps (y ∷ ss) front (yn, back.1)) in
    record {
      left = omega (arith, one, long);
      right = omega (arith, two, long);
      same = join-constant p q r same j (λ z. slice_index r (value_at a f (ps ++ z ∷ ss)))
          (λ u v t.
          (j.left (value_at a f (ps ++ u ∷ ss)) (value_at a f (ps ++ v ∷ ss))
          (hp.compatible f (ps ++ u ∷ ss) (ps ++ v ∷ ss) w (let m = length-append ps (u ∷ ss) in omega (arith, m, n, count))
          (around_pair p a.size hp.size ps ss u v front back.1 t))).same)
          (λ u v t.
          (j.right (value_at a f (ps ++ u ∷ ss)) (value_at a f (ps ++ v ∷ ss))
          (hq.compatible f (ps ++ u ∷ ss) (ps ++ v ∷ ss) w (let m = length-append ps (u ∷ ss) in omega (arith, m, n, count))
          (around_pair q a.size hq.size ps ss u v front back.1 t))).same)
          x y s;
    })

-- ---- principals and their joins are all

-- a member of the list below q that relates each number below i with its leader in q
record Reaches (a : FiniteAlgebra) (list : List Partition) (q : Partition) (i : ℕ) : Type 0 where
  member : Partition
  inside : Contains list member
  partition : IsPartition member
  size : length member ≡ a.size
  below : LiesBelow member q
  leads : (k : ℕ) → k < i → SameBlock member (slice_index q k) k

module _ (a : FiniteAlgebra) (list : List Partition) (identity_in : Contains list (identity_on a.size)) (principals : HasPrincipals a list) (closed : IsJoinClosed list) (q : Partition) (hq : IsCongruence a q) where
  reach : (i : ℕ) → i ≤ a.size → Reaches a list q i
  reach zero w = record {
    member = identity_on a.size;
    inside = identity_in;
    partition = identity-IsPartition a.size;
    size = length-range_with_len 0 a.size;
    below = λ x y s. subst (SameBlock q x) (identity-same a.size x y s) (same_itself q x (let l = s.left in let n = length-range_with_len 0 a.size in let m = hq.size in omega (arith, l, n, m)));
    leads = λ k low. absurd (omega (arith, low));
  }
  reach (suc i) w = next i w (reach i (omega (arith, w)))
    where
      next : (i : ℕ) → suc i ≤ a.size → Reaches a list q i → Reaches a list q (suc i)
      next i w r =
          let iq : i < length q = (let m = hq.size in omega (arith, w, m)) in
          let low = hq.partition.low i iq in
          ⊎_elim
          (λ less.
          let k = principals (slice_index q i) i less (omega (arith, w)) in
          let j = closed r.member k.0 r.inside k.1 in
          let same : length r.member ≡ length k.0 = r.size ∙ sym k.2.congruence.size in
          let under : LiesBelow k.0 q = k.2.least q hq (same_back q i (slice_index q i) (leader_same q hq.partition i iq), tt) in
          record {
            member = j.0;
            inside = j.1;
            partition = j.2.partition;
            size = join-size r.member k.0 j.0 same j.2 ∙ r.size;
            below = j.2.least q hq.partition r.below under;
            leads = λ m mw. ⊎_elim
                (λ before. j.2.left (slice_index q m) m (r.leads m before))
                (λ after. let is : i ≡ m = omega (arith, after, mw) in subst (λ n. SameBlock j.0 (slice_index q n) n) is (j.2.right (slice_index q i) i k.2.relates.0))
                (cases_lt m i);
          })
          (λ more.
          let own : slice_index q i ≡ i = omega (arith, low, more) in
          record {
            member = r.member;
            inside = r.inside;
            partition = r.partition;
            size = r.size;
            below = r.below;
            leads = λ m mw. ⊎_elim
                (λ before. r.leads m before)
                (λ after.
                let is : i ≡ m = omega (arith, after, mw) in
                subst (λ n. SameBlock r.member (slice_index q n) n) is (subst (λ n. SameBlock r.member n i) (sym own) (same_itself r.member i (let s = r.size in omega (arith, w, s)))))
                (cases_lt m i);
          })
          (cases_lt (slice_index q i) i)

  pub all_joins : Contains list q
  all_joins =
      let r = reach a.size (omega arith) in
      let up : LiesBelow q r.member = below_from_leaders q r.member (hq.size ∙ sym r.size) (λ k w. sym (r.leads k (let m = hq.size in omega (arith, w, m))).same) in
      subst (Contains list) (below_both r.member q r.partition hq.partition r.below up) r.inside

-- ---- one more generator of joins

-- the join of joins with p is the join with p of the join
join_of_joins : (p s t s' t' u v : Partition) → IsJoin s p s' → IsJoin t p t' → IsJoin s t u → IsJoin u p v → IsJoin s' t' v
join_of_joins p s t s' t' u v js jt ju jv = record {
  partition = jv.partition;
  left = js.least v jv.partition (below_through s u v ju.left jv.left) jv.right;
  right = jt.least v jv.partition (below_through t u v ju.right jv.left) jv.right;
  least = λ w hw one two.
      jv.least w hw
      (ju.least w hw (below_through s s' w js.left one) (below_through t t' w jt.left two))
      (below_through p s' w js.right one);
}

-- the join of s with p, joined with t, which is in the list, is the join with p of the join
join_of_one : (p s t s' u v : Partition) → IsJoin s p s' → IsJoin s t u → IsJoin u p v → IsJoin s' t v
join_of_one p s t s' u v js ju jv = record {
  partition = jv.partition;
  left = js.least v jv.partition (below_through s u v ju.left jv.left) jv.right;
  right = below_through t u v ju.right jv.left;
  least = λ w hw one two.
      jv.least w hw
      (ju.least w hw (below_through s s' w js.left one) two)
      (below_through p s' w js.right one);
}

join_back : (p q r : Partition) → IsJoin p q r → IsJoin q p r
join_back p q r j = record { partition = j.partition; left = j.right; right = j.left; least = λ w hw one two. j.least w hw two one }

pub joined_closed : (list more : List Partition) (p : Partition) → IsPartition p → IsJoinClosed list → IsJoinedWith list p more → IsJoinClosed (list ++ more)
joined_closed list more p hp closed joined x y cx cy =
    ⊎_elim
    (λ in_x. ⊎_elim
    (λ in_y. let u = closed x y in_x in_y in (u.0, Contains-append_left list more u.0 u.1, u.2))
    (λ more_y.
    let t = joined.joins y more_y in
    let u = closed t.0 x t.1 in_x in
    let v = joined.all u.0 u.1 in
    (v.0, v.1, join_back y x v.0 (join_of_one p t.0 x y u.0 v.0 t.2 u.2 v.2)))
    (Contains-append_cases list more y cy))
    (λ more_x. ⊎_elim
    (λ in_y.
    let s = joined.joins x more_x in
    let u = closed s.0 y s.1 in_y in
    let v = joined.all u.0 u.1 in
    (v.0, v.1, join_of_one p s.0 y x u.0 v.0 s.2 u.2 v.2))
    (λ more_y.
    let s = joined.joins x more_x in
    let t = joined.joins y more_y in
    let u = closed s.0 t.0 s.1 t.1 in
    let v = joined.all u.0 u.1 in
    (v.0, v.1, join_of_joins p s.0 t.0 x y u.0 v.0 s.2 t.2 u.2 v.2))
    (Contains-append_cases list more y cy))
    (Contains-append_cases list more x cx)
