-- A congruence above another is one of the quotient by it, and relates two of its elements where the two differ.
use Rattle.std.proofs.Common.{◌≡◌, ◌≢◌, ℕ, zero, suc, ◌<◌, List, [], ◌∷◌, length, map, refl, sym, ap, ◌∙◌, subst, arith, ⊎_elim}
use Rattle.std.specs.Prelude.{slice_index}
use Rattle.std.specs.List.{AllByRecursion, AllZip}
use Rattle.std.proofs.lemmas.Bool.{cases_eq}
use Rattle.std.proofs.lemmas.List.{length-map}
use Rattle.ua_table.specs.Algebras.{FiniteAlgebra, IsAlgebra, arities_of, value_at}
use Rattle.ua_table.proofs.ApplyLaws.{value-below}
use Rattle.ua_table.proofs.Lists.{AllZip-length}
use Rattle.ua_part.specs.Partitions.{Partition, SameBlock, LiesBelow}
use Rattle.ua_part.specs.Blocks.{leaders}
use Rattle.ua_part.proofs.PartitionLaws.{leader_within, leaders_from_below}
use Rattle.ua_prod.specs.Congruences.{IsCongruence}
use Rattle.ua_prod.specs.Constructions.{blocks_below}
use Rattle.ua_prod.proofs.CongruenceLaws.{zip_left, zip_right}
use Rattle.ua_type.specs.Quotients.{quotient_by, leader_of, image_of}
use Rattle.ua_type.specs.inner.Images.{RelatesTwo}
use Rattle.ua_type.proofs.LeaderLaws.{leader_is, number_leads}
use Rattle.ua_type.proofs.QuotientLaws.{all_leaders_below, same_arities, quotient-IsAlgebra, value_in_block, image-IsByLabels, labels_long, label_at}

module _ (a : FiniteAlgebra) (p q : Partition) (alg : IsAlgebra a) (cp : IsCongruence a p) (cq : IsCongruence a q) (below : LiesBelow p q) where
  abbrev b : FiniteAlgebra
  b = quotient_by a p

  abbrev theta : Partition
  theta = image_of p q

  image_size : length theta ≡ length (leaders p)
  image_size = (image-IsByLabels a p q cp cq below).size ∙ labels_long a p q cp cq below

  -- blocks are related where their leaders are
  leaders_related : (k l : ℕ) → SameBlock theta k l → SameBlock q (leader_of p k) (leader_of p l)
  leaders_related k l s =
      let t = ((image-IsByLabels a p q cp cq below).relates k l).0 s in
      let left = s.left in
      let right = s.right in
      let kw : k < length (leaders p) = omega (arith, left, image_size) in
      let lw : l < length (leaders p) = omega (arith, right, image_size) in
      let one = (leader_is p k kw).within in
      let two = (leader_is p l lw).within in
      let n = cp.size in
      let m = cq.size in
      record {
        left = omega (arith, one, n, m);
        right = omega (arith, two, n, m);
        same = sym (label_at a p q cp cq below k kw) ∙ t.same ∙ label_at a p q cp cq below l lw;
      }

  blocks_related : (k l : ℕ) → k < length (leaders p) → l < length (leaders p) → slice_index q (leader_of p k) ≡ slice_index q (leader_of p l) → SameBlock theta k l
  blocks_related k l kw lw e =
      let long = labels_long a p q cp cq below in
      ((image-IsByLabels a p q cp cq below).relates k l).1 (record {
        left = omega (arith, kw, long);
        right = omega (arith, lw, long);
        same = label_at a p q cp cq below k kw ∙ e ∙ sym (label_at a p q cp cq below l lw);
      })

  all_leaders_related : (xs ys : List ℕ) → AllZip (SameBlock theta) xs ys → AllZip (SameBlock q) (map (leader_of p) xs) (map (leader_of p) ys)
  all_leaders_related [] [] h = tt
  all_leaders_related [] (y ∷ ys) h = absurd h
  all_leaders_related (x ∷ xs) [] h = absurd h
  all_leaders_related (x ∷ xs) (y ∷ ys) h = (leaders_related x y h.0, all_leaders_related xs ys h.1)

  -- the block of a value leads to the value, as q sees it
  value_led : (f : ℕ) (xs : List ℕ) → f < length (arities_of a) → length xs ≡ slice_index (arities_of a) f
      → AllByRecursion (λ k. k < length (leaders p)) xs
      → slice_index q (leader_of p (value_at b f xs)) ≡ slice_index q (value_at a f (map (leader_of p) xs))
  value_led f xs w count h =
      let v = value-below a f (map (leader_of p) xs) alg w (length-map xs (leader_of p) ∙ count) (all_leaders_below p a.size cp.size xs h) in
      let n = cp.size in
      ap (slice_index q) (value_in_block a p alg cp f xs w count h) ∙ sym (leaders_from_below p q cp.partition below (value_at a f (map (leader_of p) xs)) (omega (arith, v, n)))

  pub image-IsCongruence : IsCongruence b theta
  image-IsCongruence = record {
    partition = (image-IsByLabels a p q cp cq below).partition;
    size = image_size;
    compatible = λ f xs ys w' count' h.
        let e : arities_of b ≡ arities_of a = same_arities (leaders p) (map (blocks_below p) p) a.operations in
        let w : f < length (arities_of a) = subst (λ (ks : List ℕ). f < length ks) e w' in
        let count : length xs ≡ slice_index (arities_of a) f = count' ∙ ap (λ (ks : List ℕ). slice_index ks f) e in
        let long : length ys ≡ length xs = sym (AllZip-length (SameBlock theta) xs ys h) in
        let lefts = zip_left theta (length (leaders p)) image_size xs ys h in
        let rights = zip_right theta (length (leaders p)) image_size xs ys h in
        let quotient = quotient-IsAlgebra a p alg cp in
        let one = value-below b f xs quotient w' count' lefts in
        let two = value-below b f ys quotient w' (long ∙ count') rights in
        let related = cq.compatible f (map (leader_of p) xs) (map (leader_of p) ys) w (length-map xs (leader_of p) ∙ count) (all_leaders_related xs ys h) in
        blocks_related (value_at b f xs) (value_at b f ys) one two
        (value_led f xs w count lefts ∙ related.same ∙ sym (value_led f ys w (long ∙ count) rights));
  }

-- two lists of one length that differ, differ at a place
differ_at : (xs ys : List ℕ) → length xs ≡ length ys → xs ≢ ys → (k : ℕ) × (k < length xs) × (slice_index xs k ≢ slice_index ys k)
differ_at [] [] n d = absurd (d refl)
differ_at [] (y ∷ ys) n d = absurd (omega (arith, n))
differ_at (x ∷ xs) [] n d = absurd (omega (arith, n))
differ_at (x ∷ xs) (y ∷ ys) n d =
    ⊎_elim
    (λ e. let r = differ_at xs ys (omega (arith, n)) (λ same. d (λ i. e i ∷ same i)) in let w = r.1 in (suc r.0, omega (arith, w), r.2))
    (λ apart. (zero, omega arith, apart))
    (cases_eq x y)

pub image_differs : (a : FiniteAlgebra) (p q : Partition) → IsCongruence a p → IsCongruence a q → LiesBelow p q → p ≢ q → RelatesTwo (image_of p q)
image_differs a p q cp cq below differ =
    let n : length p ≡ length q = cp.size ∙ sym cq.size in
    let d = differ_at p q n differ in
    let x = d.0 in
    let xp = d.1 in
    let xq : x < length q = omega (arith, xp, n) in
    -- the leaders of x
    let lp = leader_within p cp.partition x xp in
    let lq = leader_within q cq.partition x xq in
    let high : slice_index q x < length p = omega (arith, lq, n) in
    let one = number_leads p (slice_index p x) lp (cp.partition.least x xp) in
    -- that of q leads in p too
    let same_q = leaders_from_below p q cp.partition below (slice_index q x) high in
    let low_p = cp.partition.low (slice_index q x) high in
    let inner = leader_within p cp.partition (slice_index q x) high in
    let low_q = cq.partition.low (slice_index p (slice_index q x)) (omega (arith, inner, n)) in
    let least_q = cq.partition.least x xq in
    let two = number_leads p (slice_index q x) high (omega (arith, same_q, low_p, low_q, least_q)) in
    let k = blocks_below p (slice_index p x) in
    let l = blocks_below p (slice_index q x) in
    let long = labels_long a p q cp cq below in
    let k_at = label_at a p q cp cq below k one.0 in
    let l_at = label_at a p q cp cq below l two.0 in
    let kw = one.0 in
    let lw = two.0 in
    record {
      first = k;
      second = l;
      related = ((image-IsByLabels a p q cp cq below).relates k l).1 (record {
        left = omega (arith, kw, long);
        right = omega (arith, lw, long);
        same = k_at ∙ ap (slice_index q) one.1 ∙ sym (leaders_from_below p q cp.partition below x xp) ∙ sym least_q ∙ ap (slice_index q) (sym two.1) ∙ sym l_at;
      });
      differ = λ e. d.2 (sym one.1 ∙ ap (leader_of p) e ∙ two.1);
    }
