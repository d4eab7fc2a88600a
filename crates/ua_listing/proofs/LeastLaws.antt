-- The least listing, from a whole search and the order of its rows.
use Rattle.std.proofs.Common.{◌≡◌, ◌↔◌, inl, ⊎_elim, ℕ, suc, ◌<◌, List, [], ◌∷◌, length, get_or, sym, ap, ◌∙◌, subst, arith}
use Rattle.std.specs.Prelude.{Contains, slice_index, slice_index_or}
use Rattle.std.specs.List.{AllByRecursion}
use Rattle.std.proofs.lemmas.Bool.{cases_lt}
use Rattle.std.proofs.lemmas.List.{length-map, get_or-map, get_or_default}
use Rattle.std.proofs.lemmas.Option.{get_or_from_slice_get}
use Rattle.ua_table.specs.declared.origins.Origin.{Origin}
use Rattle.ua_table.specs.declared.origins.Origin.TheVariants.{Gen, Op}
use Rattle.ua_table.specs.Algebras.{Vector, Product, IsProduct, IsVector, IsIncreasing, arities}
use Rattle.ua_table.specs.Counting.{EachOnceBelow}
use Rattle.ua_table.specs.Terms.{Tree, Generator, Application, Trees, none, more, IsTerm, AreTerms, term_value, term_values}
use Rattle.ua_table.specs.Generated.{Sg}
use Rattle.ua_table.specs.Listings.{Row, vectors_of, ranks_of, IsMadeFrom, IsClosedListing}
use Rattle.ua_table.specs.Numbering.{IsShape}
use Rattle.ua_table.specs.Orders.{IsHeight, IsFirstOrigin, IsLeast}
use Rattle.ua_table.specs.Origins.{IsOrigin, arguments_of, origin_value}
use Rattle.ua_table.proofs.ApplyLaws.{IsVector-apply}
use Rattle.ua_table.proofs.Lists.{found, all_at, all_from_contains, All-slice_get}
use Rattle.ua_listing.specs.Arrangements.{origins_of}
use Rattle.ua_listing.specs.inner.Leasts.{ComesBefore, AreByHeight}
use Rattle.ua_listing.specs.Rankings.{ArePositions}
use Rattle.ua_listing.specs.inner.Searches.{IsWholeSearch}
use Rattle.ua_listing.specs.declared.searches.Search.{Search}
use Rattle.ua_table.proofs.Members.{zip_by_index}
use Rattle.ua_table.proofs.GeneratedLaws.{length-term_values}
use Rattle.ua_listing.proofs.HeightLaws.{is_height, is_first, lower_arguments}
use Rattle.ua_listing.proofs.RearrangeLaws.{IsRankOf, rank_of, inverse_once, increasing_different}

-- ---- members are vectors of the product

module _ (p : Product) (gens : List Vector) (product : IsProduct p) (admitted : AllByRecursion (IsVector p) gens) where
  mutual
    term_vector : (t : Tree) → IsTerm (arities p) (length gens) t → IsVector p (term_value p gens t)
    term_vector (Generator i) h = let there = found gens i h in subst (IsVector p) (sym (get_or_from_slice_get gens i there.0 [] there.1)) (All-slice_get (IsVector p) gens i there.0 admitted there.1)
    term_vector (Application f ts) h = IsVector-apply p f (term_values p gens ts) product h.0 (length-term_values p gens ts ∙ h.1) (term_vectors ts h.2)

    term_vectors : (ts : Trees) → AreTerms (arities p) (length gens) ts → AllByRecursion (IsVector p) (term_values p gens ts)
    term_vectors none h = tt
    term_vectors (more t ts) h = (term_vector t h.0, term_vectors ts h.1)

  pub closed_vectors : (b : ℕ) (rows : List Row) → IsClosedListing p gens b rows → AllByRecursion (IsVector p) (vectors_of rows)
  closed_vectors b rows closed = all_from_contains (IsVector p) (vectors_of rows) (λ v c. let g = (closed.exact v).0 c in subst (IsVector p) g.value (term_vector g.term g.is_term))

-- ---- which comes first

never_both : (heights : List ℕ) (i j : ℕ) → ComesBefore heights i j → ComesBefore heights j i → ⊥
never_both heights i j a b = ⊎_elim
    (λ l. ⊎_elim (λ m. omega (arith, l, m)) (λ m. let e = m.0 in omega (arith, l, e)) b)
    (λ l. ⊎_elim (λ m. let e = l.0 in omega (arith, e, m)) (λ m. let x = l.1 in let y = m.1 in omega (arith, x, y)) b)
    a

module _ (n : ℕ) (heights places ranks : List ℕ) (by : AreByHeight heights places) (all : length heights ≡ n) (positions : ArePositions places ranks) where
  once : EachOnceBelow n places
  once = subst (λ m. EachOnceBelow m places) all by.once

  count : length places ≡ n
  count = by.count ∙ all

  rank_is : (i : ℕ) → i < n → IsRankOf n places ranks once count positions i
  rank_is i h = rank_of n places ranks once count positions i h

  ranked_before : (i j : ℕ) → i < n → j < n → slice_index ranks i < slice_index ranks j → ComesBefore heights i j
  ranked_before i j hi hj low =
      let ri = rank_is i hi in
      let rj = rank_is j hj in
      subst (λ (x : ℕ × ℕ). ComesBefore heights x.0 x.1) (λ k. (ri.back k, rj.back k)) (by.ascending (slice_index ranks i) (slice_index ranks j) low (let l = rj.low in let c = count in omega (arith, l, c)))

  itself : (i : ℕ) → ComesBefore heights i i → ⊥
  itself i a = ⊎_elim (λ l. omega (arith, l)) (λ l. let x = l.1 in omega (arith, x)) a

  before_ranked : (i j : ℕ) → i < n → j < n → ComesBefore heights i j → slice_index ranks i < slice_index ranks j
  before_ranked i j hi hj a = ⊎_elim
      (λ l. l)
      (λ ge. ⊎_elim
      (λ l. absurd (never_both heights i j a (ranked_before j i hj hi l)))
      (λ le.
      let same : slice_index ranks i ≡ slice_index ranks j = omega (arith, ge, le) in
      let equal : i ≡ j = sym (rank_is i hi).back ∙ ap (slice_index places) same ∙ (rank_is j hj).back in
      absurd (itself i (subst (ComesBefore heights i) (sym equal) a)))
      (cases_lt (slice_index ranks j) (slice_index ranks i)))
      (cases_lt (slice_index ranks i) (slice_index ranks j))

  pub rank_order : (i j : ℕ) → i < n → j < n → slice_index ranks i < slice_index ranks j ↔ ComesBefore heights i j
  rank_order i j hi hj = (ranked_before i j hi hj, before_ranked i j hi hj)

  pub ranks_once : EachOnceBelow n ranks
  ranks_once = inverse_once n places ranks once count positions

-- ---- the least listing, from heights, first origins and the order of its rows

some_row : Row
some_row = record { vector = []; rank = 0; origin = Gen 0 }

pub all_by_index : {X : Type 0} (P : X → Type 0) (xs : List X) (d : X) → ((i : ℕ) → i < length xs → P (get_or xs i d)) → AllByRecursion P xs
all_by_index P [] d h = tt
all_by_index P (x ∷ xs) d h = (h 0 (omega arith), all_by_index P xs d (λ i l. h (suc i) (omega (arith, l))))

module _ (p : Product) (gens : List Vector) (b : ℕ) (old new : List Row) (heights places : List ℕ) (os : List Origin) (closed : IsClosedListing p gens b old) (heights_count : length heights ≡ length (vectors_of old))
    (tall : (i : ℕ) → i < length (vectors_of old) → IsHeight p gens (slice_index_or (vectors_of old) i []) (slice_index heights i))
    (first : (i : ℕ) → i < length (vectors_of old) → IsFirstOrigin p gens (vectors_of old) heights (slice_index_or (vectors_of old) i []) (slice_index heights i) (slice_index_or os i (Gen 0)))
    (by : AreByHeight heights places) (vectors : vectors_of new ≡ vectors_of old) (positions : ArePositions places (ranks_of new)) (origins : origins_of new ≡ os) where
  new_count : length new ≡ length (vectors_of old)
  new_count = sym (length-map new (λ (r : Row). r.vector)) ∙ ap (length {A = Vector}) vectors

  inc : IsIncreasing (vectors_of old)
  inc = closed.listing.increasing

  vector_at : (i : ℕ) (d : Row) → i < length new → (get_or new i d).vector ≡ slice_index_or (vectors_of old) i []
  vector_at i d h = sym (get_or-map (λ (r : Row). r.vector) new i d [] h) ∙ ap (λ (l : List Vector). get_or l i []) vectors

  origin_at : (i : ℕ) (d : Row) → i < length new → (get_or new i d).origin ≡ slice_index_or os i (Gen 0)
  origin_at i d h = sym (get_or-map (λ (r : Row). r.origin) new i d (Gen 0) h) ∙ ap (λ (l : List Origin). get_or l i (Gen 0)) origins

  rank_at : (i : ℕ) (d : Row) → i < length new → (get_or new i d).rank ≡ slice_index (ranks_of new) i
  rank_at i d h = sym (get_or-map (λ (r : Row). r.rank) new i d 0 h)

  height_at : (i x : ℕ) → i < length (vectors_of old) → get_or heights i x ≡ slice_index heights i
  height_at i x h = get_or_default heights i x 0 (let c = heights_count in omega (arith, c, h))

  order : (i j : ℕ) → i < length (vectors_of old) → j < length (vectors_of old) → slice_index (ranks_of new) i < slice_index (ranks_of new) j ↔ ComesBefore heights i j
  order i j hi hj = rank_order (length (vectors_of old)) heights places (ranks_of new) by heights_count positions i j hi hj

  arguments_low : (o : Origin) → IsOrigin (arities p) (length gens) (length (vectors_of old)) o → AllByRecursion (λ a. a < length (vectors_of old)) (arguments_of (arities p) o)
  arguments_low (Gen i) valid = tt
  arguments_low (Op f args) valid = valid.earlier

  arguments_earlier : (i : ℕ) → i < length (vectors_of old) → AllByRecursion (λ a. slice_index (ranks_of new) a < slice_index (ranks_of new) i) (arguments_of (arities p) (slice_index_or os i (Gen 0)))
  arguments_earlier i h =
      let lower = lower_arguments (arities p) heights (slice_index heights i) (slice_index_or os i (Gen 0)) (first i h).reaches in
      let within = arguments_low (slice_index_or os i (Gen 0)) (first i h).origin in
      all_from_contains (λ a. slice_index (ranks_of new) a < slice_index (ranks_of new) i) (arguments_of (arities p) (slice_index_or os i (Gen 0))) (λ a c.
      (order a i (all_at (λ a. a < length (vectors_of old)) (arguments_of (arities p) (slice_index_or os i (Gen 0))) a within c) h).1
      (inl (all_at (λ a. slice_index heights a < slice_index heights i) (arguments_of (arities p) (slice_index_or os i (Gen 0))) a lower c)))

  low_in : (i : ℕ) → i < length new → i < length (vectors_of old)
  low_in i h = let c = new_count in omega (arith, h, c)

  made : (i : ℕ) → i < length new → IsMadeFrom p gens new (get_or new i some_row)
  made i h =
      let f = first i (low_in i h) in
      record {
        origin = subst (λ (x : ℕ × Origin). IsOrigin (arities p) (length gens) x.0 x.1) (λ k. (sym new_count k, sym (origin_at i some_row h) k)) f.origin;
        earlier = subst (λ (x : ℕ × Origin). AllByRecursion (λ a. slice_index (ranks_of new) a < x.0) (arguments_of (arities p) x.1)) (λ k. (sym (rank_at i some_row h) k, sym (origin_at i some_row h) k)) (arguments_earlier i (low_in i h));
        value = (λ k. origin_value p gens (vectors k) (origin_at i some_row h k)) ∙ f.value ∙ sym (vector_at i some_row h);
      }

  pub least_from : IsLeast p gens b new
  least_from = record {
    closed = record {
      listing = record {
        increasing = subst IsIncreasing (sym vectors) inc;
        ranks = subst (λ m. EachOnceBelow m (ranks_of new)) (sym new_count) (ranks_once (length (vectors_of old)) heights places (ranks_of new) by heights_count positions);
        origins = all_by_index (IsMadeFrom p gens new) new some_row made;
      };
      within = let c = new_count in let o = length-map old (λ (r : Row). r.vector) in let w = closed.within in omega (arith, c, o, w);
      exact = λ v. subst (λ (l : List Vector). Contains l v ↔ Sg p gens v) (sym vectors) (closed.exact v);
    };
    heights = heights;
    are_heights = zip_by_index (λ (r : Row) h. IsHeight p gens r.vector h) new heights (heights_count ∙ sym new_count)
        (λ i r h low. subst (λ (x : Vector × ℕ). IsHeight p gens x.0 x.1) (λ k. (sym (vector_at i r low) k, sym (height_at i h (low_in i low)) k)) (tall i (low_in i low)));
    origins = zip_by_index (λ (r : Row) h. IsFirstOrigin p gens (vectors_of new) heights r.vector h r.origin) new heights (heights_count ∙ sym new_count)
        (λ i r h low. subst (λ (x : List Vector × Vector × ℕ × Origin). IsFirstOrigin p gens x.0 heights x.1 x.2 x.3)
        (λ k. (sym vectors k, sym (vector_at i r low) k, sym (height_at i h (low_in i low)) k, sym (origin_at i r low) k)) (first i (low_in i low)));
    ranks = λ i j hi hj. order i j (low_in i hi) (low_in j hj);
  }

-- from a whole search and the order of its rows
pub least_listing : (p : Product) (gens : List Vector) (b : ℕ) (old new : List Row) (s : Search) (places : List ℕ) → IsClosedListing p gens b old → IsShape (arities p) → IsWholeSearch p gens (vectors_of old) s
    → AreByHeight s.heights.items places → vectors_of new ≡ vectors_of old → ArePositions places (ranks_of new) → origins_of new ≡ s.origins.items → IsLeast p gens b new
least_listing p gens b old new s places closed shape whole by vectors positions origins =
    let different = increasing_different (vectors_of old) closed.listing.increasing in
    least_from p gens b old new s.heights.items places s.origins.items closed whole.search.heights_count
    (is_height p gens (vectors_of old) s whole shape different closed.exact)
    (is_first p gens (vectors_of old) s whole shape different closed.exact)
    by vectors positions origins
