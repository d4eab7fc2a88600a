-- Rows: those named by tuples, and what stays when there is one more.
use Rattle.std.proofs.Common.{◌≡◌, ◌≢◌, ⊎_elim, ℕ, zero, suc, ◌<◌, ◌≤◌, Bool, true, false, List, [], ◌∷◌, ◌++◌, length, take, set, Some, refl, sym, ap, ◌∙◌, subst, arith}
use Rattle.std.specs.Prelude.{Contains, slice_get, slice_index, slice_index_or, nat_eq}
use Rattle.std.specs.List.{AllByRecursion, IsDistinct}
use Rattle.std.specs.Cmp.Lexicographic.{pointwise, bytes_decides}
use Rattle.std.proofs.lemmas.List.{get_or_append_left, length-map}
use Rattle.std.proofs.lemmas.Option.{slice_get_within, get_or_from_slice_get}
use Rattle.ua_table.specs.declared.origins.Origin.{Origin}
use Rattle.ua_table.specs.declared.origins.Origin.TheVariants.{Gen, Op}
use Rattle.ua_table.specs.Algebras.{Vector, Product, IsProduct, IsVector, arities, apply}
use Rattle.ua_table.specs.Origins.{IsOrigin, origin_value}
use Rattle.ua_table.specs.Numbering.{IsShape}
use Rattle.ua_table.specs.Slices.{bound, slice_operation, slice_tuples, slice_row}
use Rattle.ua_table.proofs.Lists.{all_at, All-slice_get, found, all_from_contains, all_weaker, Contains-cases, Contains-head, Contains-tail, Contains-none, all_from_places, all_push}
use Rattle.ua_table.proofs.Rows.{slices_of_rows}
use Rattle.ua_table.proofs.SliceLaws.{bound_laws}
use Rattle.ua_rows.specs.RowLists.{rows_at}
use Rattle.ua_table.proofs.ApplyLaws.{IsVector-apply}
use Rattle.ua_rows.specs.Results.{HasResults}
use Rattle.ua_table.specs.Orders.{AreMade}

module _ {X : Type 0} where
  -- what stands among the first j items stands among the first k
  pub take_more : (xs : List X) (j k : ℕ) (x : X) → j ≤ k → Contains (take j xs) x → Contains (take k xs) x
  take_more [] zero zero x le h = h
  take_more [] zero (suc k) x le h = h
  take_more [] (suc j) zero x le h = absurd (omega (arith, le))
  take_more [] (suc j) (suc k) x le h = h
  take_more (y ∷ ys) zero k x le h = absurd (Contains-none x h)
  take_more (y ∷ ys) (suc j) zero x le h = absurd (omega (arith, le))
  take_more (y ∷ ys) (suc j) (suc k) x le h = ⊎_elim
      (λ here. subst (Contains (y ∷ take k ys)) here (Contains-head y (take k ys)))
      (λ rest. Contains-tail y x (take k ys) (take_more ys j k x (omega (arith, le)) rest))
      (Contains-cases y x (take j ys) h)

  -- and among the first k of a longer list
  pub take_longer : (xs more : List X) (k : ℕ) (x : X) → Contains (take k xs) x → Contains (take k (xs ++ more)) x
  take_longer [] more zero x h = absurd (Contains-none x h)
  take_longer [] more (suc k) x h = absurd (Contains-none x h)
  take_longer (y ∷ ys) more zero x h = h
  take_longer (y ∷ ys) more (suc k) x h = ⊎_elim
      (λ here. subst (Contains (y ∷ take k (ys ++ more))) here (Contains-head y (take k (ys ++ more))))
      (λ rest. Contains-tail y x (take k (ys ++ more)) (take_longer ys more k x rest))
      (Contains-cases y x (take k ys) h)

  -- and in the whole list
  pub take_whole : (xs : List X) (k : ℕ) (x : X) → Contains (take k xs) x → Contains xs x
  take_whole [] zero x h = h
  take_whole [] (suc k) x h = h
  take_whole (y ∷ ys) zero x h = absurd (Contains-none x h)
  take_whole (y ∷ ys) (suc k) x h = ⊎_elim
      (λ here. subst (Contains (y ∷ ys)) here (Contains-head y ys))
      (λ rest. Contains-tail y x ys (take_whole ys k x rest))
      (Contains-cases y x (take k ys) h)

  -- the place of an item
  pub place_of : (xs : List X) (x : X) → Contains xs x → (i : ℕ) × (slice_get xs i ≡ Some x)
  place_of [] x h = absurd (Contains-none x h)
  place_of (y ∷ ys) x h = ⊎_elim (λ here. (0, ap Some here)) (λ rest. let p = place_of ys x rest in (suc p.0, p.1)) (Contains-cases y x ys h)

  pub at_longer : (xs ys : List X) (k : ℕ) (x : X) → slice_get xs k ≡ Some x → slice_get (xs ++ ys) k ≡ Some x
  at_longer [] ys k x e = cc
  at_longer (z ∷ zs) ys zero x e = e
  at_longer (z ∷ zs) ys (suc k) x e = at_longer zs ys k x e

  pub all_both : (P Q : X → Type 0) (xs : List X) → AllByRecursion P xs → AllByRecursion Q xs → AllByRecursion (λ x. P x × Q x) xs
  all_both P Q [] p q = tt
  all_both P Q (x ∷ xs) p q = ((p.0, q.0), all_both P Q xs p.1 q.1)

  -- another item than the one that is set
  pub set_other : (xs : List X) (i j : ℕ) (x y : X) → i ≢ j → slice_get xs j ≡ Some y → slice_get (set xs i x) j ≡ Some y
  set_other [] i j x y n e = e
  set_other (z ∷ zs) zero zero x y n e = absurd (n refl)
  set_other (z ∷ zs) zero (suc j) x y n e = e
  set_other (z ∷ zs) (suc i) zero x y n e = e
  set_other (z ∷ zs) (suc i) (suc j) x y n e = set_other zs i j x y (λ q. n (ap suc q)) e

-- a vector that is none of different ones differs from them
pub distinct_more : (rows : List Vector) (v : Vector) → IsDistinct (pointwise nat_eq) rows → ¬ Contains rows v → IsDistinct (pointwise nat_eq) (rows ++ v ∷ [])
unfolding IsDistinct
distinct_more [] v d new = (tt, d)
distinct_more (r ∷ rs) v d new = (all_push (λ y. pointwise nat_eq r y ≡ false) rs v d.0 (differs (pointwise nat_eq r v) refl), distinct_more rs v d.1 (λ h. new (Contains-tail r v rs h)))
  where
    differs : (b : Bool) → pointwise nat_eq r v ≡ b → pointwise nat_eq r v ≡ false
    differs false e = e
    differs true e = absurd (new (subst (Contains (r ∷ rs)) ((bytes_decides r v).0 e) (Contains-head r rs)))

-- each place names one row
pub length-rows_at : (rows : List Vector) (places : List ℕ) → length (rows_at rows places) ≡ length places
length-rows_at rows places = length-map places (λ i. slice_index_or rows i [])

-- the rows that are named stay where they are
pub rows_at-more : (rows more : List Vector) (n : ℕ) (places : List ℕ) → n ≤ length rows → AllByRecursion (λ k. k < n) places → rows_at (rows ++ more) places ≡ rows_at rows places
rows_at-more rows more n [] le h = refl
rows_at-more rows more n (k ∷ ks) le h = λ i. get_or_append_left rows more [] k (let low = h.0 in omega (arith, low, le)) i ∷ rows_at-more rows more n ks le h.1 i

-- and so does the value of an origin over them
pub origin_value-more : (p : Product) (gens rows more : List Vector) (n : ℕ) (o : Origin) → n ≤ length rows → IsOrigin (arities p) (length gens) n o → origin_value p gens (rows ++ more) o ≡ origin_value p gens rows o
origin_value-more p gens rows more n (Gen i) le h = refl
origin_value-more p gens rows more n (Op f args) le h = ap (apply p f) (rows_at-more rows more n (take (slice_index (arities p) f) args) le h.earlier)

-- the tuples of a slice of some rows name these rows
pub slice_places : (ks : List ℕ) (r s : ℕ) (tuple : List ℕ) → IsShape ks → s < bound ks r → Contains (slice_tuples ks s) tuple → AllByRecursion (λ k. k < r) tuple
slice_places ks r s tuple shape below h =
    let laws = bound_laws ks shape in
    let some = laws.some r s below in
    let low = (laws.below r s some).0 below in
    let of_row = slices_of_rows ks s tuple some h in
    all_weaker (λ k. k ≤ slice_row ks s) (λ k. k < r) (λ k le. omega (arith, le, low)) tuple of_row.low

-- the results of a slice stay, where more rows are seen
pub results_seen : (p : Product) (rows : List Vector) (j k s : ℕ) → j ≤ k → HasResults p rows j s → HasResults p rows k s
results_seen p rows j k s le h = all_weaker
    (λ tuple. Contains (take j rows) (apply p (slice_operation (arities p) s) (rows_at rows tuple)))
    (λ tuple. Contains (take k rows) (apply p (slice_operation (arities p) s) (rows_at rows tuple)))
    (λ tuple c. take_more rows j k (apply p (slice_operation (arities p) s) (rows_at rows tuple)) le c) (slice_tuples (arities p) s) h

-- and where there are more rows
pub results_more : (p : Product) (rows more : List Vector) (seen s : ℕ) → IsShape (arities p) → s < bound (arities p) (length rows) → HasResults p rows seen s → HasResults p (rows ++ more) seen s
results_more p rows more seen s shape below h =
    let f = slice_operation (arities p) s in
    let P : List ℕ → Type 0 = λ tuple. Contains (take seen rows) (apply p f (rows_at rows tuple)) in
    all_from_contains (λ tuple. Contains (take seen (rows ++ more)) (apply p f (rows_at (rows ++ more) tuple))) (slice_tuples (arities p) s)
    (λ tuple c.
    let same = rows_at-more rows more (length rows) tuple (omega arith) (slice_places (arities p) (length rows) s tuple shape below c) in
    subst (λ vs. Contains (take seen (rows ++ more)) (apply p f vs)) (sym same)
    (take_longer rows more seen (apply p f (rows_at rows tuple)) (all_at P (slice_tuples (arities p) s) tuple h c)))

-- rows that have origins over earlier rows are vectors of the product
module _ (p : Product) (gens rows : List Vector) (origins : List Origin) (product : IsProduct p) (admitted : AllByRecursion (IsVector p) gens) (made : AreMade p gens rows origins) where
  vectors_at : (b : ℕ) (places : List ℕ) → ((k : ℕ) (v : Vector) → k < b → slice_get rows k ≡ Some v → IsVector p v) → b ≤ length rows → AllByRecursion (λ k. k < b) places → AllByRecursion (IsVector p) (rows_at rows places)
  vectors_at b [] rec le h = tt
  vectors_at b (k ∷ ks) rec le h =
      let there = found rows k (let low = h.0 in omega (arith, low, le)) in
      (subst (IsVector p) (sym (get_or_from_slice_get rows k there.0 [] there.1)) (rec k there.0 h.0 there.1), vectors_at b ks rec le h.1)

  vector_of : (b : ℕ) (o : Origin) → ((k : ℕ) (v : Vector) → k < b → slice_get rows k ≡ Some v → IsVector p v) → b ≤ length rows → IsOrigin (arities p) (length gens) b o → IsVector p (origin_value p gens rows o)
  vector_of b (Gen i) rec le h = let there = found gens i h in subst (IsVector p) (sym (get_or_from_slice_get gens i there.0 [] there.1)) (All-slice_get (IsVector p) gens i there.0 admitted there.1)
  vector_of b (Op f args) rec le h =
      let places = take (slice_index (arities p) f) args in
      IsVector-apply p f (rows_at rows places) product h.operation (length-rows_at rows places ∙ h.count) (vectors_at b places rec le h.earlier)

  vectors_below : (b k : ℕ) (v : Vector) → k < b → slice_get rows k ≡ Some v → IsVector p v
  vectors_below zero k v h e = absurd (omega (arith, h))
  vectors_below (suc b) k v h e =
      let low = slice_get_within rows k v e in
      let there = found origins k (let c = made.count in omega (arith, c, low)) in
      let value = made.value k there.0 there.1 in
      let same : origin_value p gens rows there.0 ≡ v = cc in
      subst (IsVector p) same (vector_of k there.0 (λ j w lt is. vectors_below b j w (omega (arith, lt, h)) is) (omega (arith, low)) (made.origin k there.0 there.1))

  pub made_vectors : AllByRecursion (IsVector p) rows
  made_vectors = all_from_places (IsVector p) rows (λ k v e. vectors_below (suc k) k v (omega arith) e)
