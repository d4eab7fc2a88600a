-- The rows of a listing by the ranks and origins that it keeps.
use Rattle.std.proofs.Common.{◌≡◌, ℕ, ◌<◌, List, [], ◌∷◌, ◌++◌, length, map, take, drop, get_or, refl, sym, ap, ◌∙◌, subst, arith, Some}
use Rattle.std.specs.Prelude.{slice_get, slice_index, slice_index_or, Contains}
use Rattle.std.specs.List.{AllByRecursion}
use Rattle.std.specs.Option.{option_map}
use Rattle.std.proofs.lemmas.List.{length-map, get_or-map, take-append-drop, take_at, drop_at, get_or_default}
use Rattle.std.proofs.lemmas.List.Elements.{All-from_recursion}
use Rattle.std.proofs.lemmas.Option.{slice_get-map, slice_get-get_or, get_or_from_slice_get}
use Rattle.ua_table.specs.declared.origins.Origin.{Origin}
use Rattle.ua_table.specs.declared.origins.Origin.TheVariants.{Gen, Op}
use Rattle.ua_table.specs.Algebras.{Vector, IsIncreasing}
use Rattle.ua_table.specs.Origins.{arguments_of}
use Rattle.ua_table.specs.Counting.{EachOnceBelow}
use Rattle.ua_table.specs.Listings.{Row, vectors_of, ranks_of}
use Rattle.ua_table.specs.Orders.{Record, by_rank, rows_of}
use Rattle.ua_table.proofs.Lists.{mapped_from, All-slice_get, all_from_contains, all_weaker, all_map}
use Rattle.ua_rows.specs.RowLists.{rows_at}
use Rattle.ua_listing.specs.Rankings.{IsRanking, ArePositions}
use Rattle.ua_listing.specs.Arrangements.{origins_of, listed, IsIndex, by_position, IsOriginOver, IsArranged}
use Rattle.ua_listing.specs.inner.Arrangements.{origins_at}
use Rattle.ua_table.proofs.NumbersOnce.{once-below, once-some}

-- ---- the columns of a listing

pub vectors_of-listed : (rows : List Vector) (ranks : List ℕ) (os : List Origin) → length os ≡ length ranks → vectors_of (listed rows ranks os) ≡ rows_at rows ranks
vectors_of-listed rows [] os e = refl
vectors_of-listed rows (r ∷ ranks) [] e = absurd (omega (arith, e))
vectors_of-listed rows (r ∷ ranks) (o ∷ os) e = ap (λ (vs : List Vector). slice_index_or rows r [] ∷ vs) (vectors_of-listed rows ranks os (omega (arith, e)))

pub ranks_of-listed : (rows : List Vector) (ranks : List ℕ) (os : List Origin) → length os ≡ length ranks → ranks_of (listed rows ranks os) ≡ ranks
ranks_of-listed rows [] os e = refl
ranks_of-listed rows (r ∷ ranks) [] e = absurd (omega (arith, e))
ranks_of-listed rows (r ∷ ranks) (o ∷ os) e = ap (λ (ns : List ℕ). r ∷ ns) (ranks_of-listed rows ranks os (omega (arith, e)))

pub origins_of-listed : (rows : List Vector) (ranks : List ℕ) (os : List Origin) → length os ≡ length ranks → origins_of (listed rows ranks os) ≡ os
origins_of-listed rows [] [] e = refl
origins_of-listed rows [] (o ∷ os) e = absurd (omega (arith, e))
origins_of-listed rows (r ∷ ranks) [] e = absurd (omega (arith, e))
origins_of-listed rows (r ∷ ranks) (o ∷ os) e = ap (λ (ns : List Origin). o ∷ ns) (origins_of-listed rows ranks os (omega (arith, e)))

pub length-listed : (rows : List Vector) (ranks : List ℕ) (os : List Origin) → length os ≡ length ranks → length (listed rows ranks os) ≡ length ranks
length-listed rows ranks os e = sym (length-map (listed rows ranks os) (λ (r : Row). r.rank)) ∙ ap length (ranks_of-listed rows ranks os e)

module _ (rows : List Vector) (ranks places : List ℕ) (os : List Origin) (index : IsIndex rows ranks places os) where
  -- as many rows as there are vectors
  pub length-index : length (listed rows ranks os) ≡ length rows
  length-index = length-listed rows ranks os index.origins ∙ index.ranking.count

  -- the row of a position
  pub row_at-index : (i : ℕ) (v : Vector) → i < length ranks → slice_get rows (get_or ranks i 0) ≡ Some v → slice_get (vectors_of (listed rows ranks os)) i ≡ Some v
  row_at-index i v h e =
      ap (λ (vs : List Vector). slice_get vs i) (vectors_of-listed rows ranks os index.origins)
      ∙ slice_get-map (λ r. slice_index_or rows r []) ranks i
      ∙ ap (option_map (λ r. slice_index_or rows r [])) (slice_get-get_or ranks i 0 h)
      ∙ ap Some (get_or_from_slice_get rows (get_or ranks i 0) v [] e)

  -- the ranks are those of rows
  pub rank-below : (i : ℕ) → i < length ranks → get_or ranks i 0 < length rows
  rank-below i h = once-below (length rows) ranks index.ranking.once i h

  -- where a rank stands
  pub record IsPlaceOf (r : ℕ) : Type 0 where
    pub within : get_or places r 0 < length ranks
    pub rank : get_or ranks (get_or places r 0) 0 ≡ r

  pub place_of : (r : ℕ) → r < length rows → IsPlaceOf r
  place_of r h =
      let c = once-some (length rows) ranks index.ranking.once r h in
      let at : get_or ranks c.0 0 ≡ r = get_or_default ranks c.0 0 r c.1 ∙ c.2 in
      let place : get_or places r 0 ≡ c.0 = ap (λ n. get_or places n 0) (sym at) ∙ index.positions.each c.0 c.1 in
      record { within = omega (arith, place, c.1); rank = ap (λ n. get_or ranks n 0) place ∙ at }

  -- a row of the listing is one of the vectors
  pub member-index : (v : Vector) → Contains (vectors_of (listed rows ranks os)) v → Contains rows v
  member-index v c =
      let c' = subst (λ (vs : List Vector). Contains vs v) (vectors_of-listed rows ranks os index.origins) c in
      let h : c'.0 < length ranks = omega (arith, c'.1, length-map ranks (λ r. slice_index_or rows r [])) in
      let low = rank-below c'.0 h in
      let same : get_or rows (get_or ranks c'.0 0) [] ≡ v = sym (get_or-map (λ r. slice_index_or rows r []) ranks c'.0 0 v h) ∙ c'.2 in
      (get_or ranks c'.0 0, low, get_or_default rows (get_or ranks c'.0 0) v [] low ∙ same)

-- ---- origins by ranks and by positions

map_back : (f g : ℕ → ℕ) (xs : List ℕ) → AllByRecursion (λ x. g (f x) ≡ x) xs → map g (map f xs) ≡ xs
map_back f g [] h = refl
map_back f g (x ∷ xs) h = λ i. h.0 i ∷ map_back f g xs h.1 i

module _ (ks : List ℕ) (log : List Record) (ranks places : List ℕ) (ranking : IsRanking (rows_of log) ranks) (positions : ArePositions ranks places)
    (valid : AllByRecursion (λ (r : Record). IsOriginOver ks (length log) r.1) log) where
  count_os : length (origins_at ks places log ranks) ≡ length ranks
  count_os = length-map ranks (λ r. by_position ks places (slice_index_or log r ([], Gen 0)).1)

  pub index-made : IsIndex (rows_of log) ranks places (origins_at ks places log ranks)
  index-made = record { ranking = ranking; positions = positions; origins = count_os }

  -- the ranks of records
  pub ranks-within : AllByRecursion (λ r. r < length log) ranks
  ranks-within = all_from_contains (λ r. r < length log) ranks (λ r c.
      let low = once-below (length (rows_of log)) ranks ranking.once c.0 c.1 in
      let at : get_or ranks c.0 0 ≡ r = get_or_default ranks c.0 0 r c.1 ∙ c.2 in
      omega (arith, low, at, length-map log (λ (q : Record). q.0)))

  -- ranks and positions undo each other
  place : (a : ℕ) → a < length log → IsPlaceOf (rows_of log) ranks places (origins_at ks places log ranks) index-made a
  place a h = place_of (rows_of log) ranks places (origins_at ks places log ranks) index-made a (omega (arith, h, length-map log (λ (r : Record). r.0)))

  undone : (args : List ℕ) → AllByRecursion (λ a. a < length log) args → AllByRecursion (λ a. slice_index ranks (slice_index places a) ≡ a) args
  undone args h = all_weaker (λ a. a < length log) (λ a. slice_index ranks (slice_index places a) ≡ a) (λ a low. (place a low).rank) args h

  placed_below : (args : List ℕ) → AllByRecursion (λ a. a < length log) args → AllByRecursion (λ a. a < length ranks) (map (λ a. slice_index places a) args)
  placed_below args h =
      all_map (λ a. a < length ranks) (λ a. slice_index places a) args
      (all_weaker (λ a. a < length log) (λ a. slice_index places a < length ranks) (λ a low. (place a low).within) args h)

  by_rank_back : (o : Origin) → IsOriginOver ks (length log) o → by_rank ks ranks (by_position ks places o) ≡ o
  by_rank_back (Gen i) v = refl
  by_rank_back (Op f args) v =
      let k = slice_index ks f in
      let there = map (λ a. slice_index places a) (take k args) in
      let n : length there ≡ k = length-map (take k args) (λ a. slice_index places a) ∙ v.valid.count in
      let front : map (λ a. slice_index ranks a) (take k (there ++ drop k args)) ≡ take k args =
      ap (map (λ a. slice_index ranks a)) (take_at there (drop k args) k n)
      ∙ map_back (λ a. slice_index places a) (λ a. slice_index ranks a) (take k args) (undone (take k args) v.valid.earlier) in
      (λ l. Op f (front l ++ drop_at there (drop k args) k n l)) ∙ ap (Op f) (take-append-drop k args)

  named_below : (o : Origin) → IsOriginOver ks (length log) o → AllByRecursion (λ a. a < length ranks) (arguments_of ks (by_position ks places o))
  named_below (Gen i) v = tt
  named_below (Op f args) v =
      let k = slice_index ks f in
      let there = map (λ a. slice_index places a) (take k args) in
      let n : length there ≡ k = length-map (take k args) (λ a. slice_index places a) ∙ v.valid.count in
      subst (AllByRecursion (λ a. a < length ranks)) (sym (take_at there (drop k args) k n)) (placed_below (take k args) v.valid.earlier)

  -- the row of a rank
  abbrev row_for : ℕ → Row
  row_for r = record { vector = slice_index_or (rows_of log) r []; rank = r; origin = by_position ks places (slice_index_or log r ([], Gen 0)).1 }

  rows_are : (rs : List ℕ) → listed (rows_of log) rs (origins_at ks places log rs) ≡ map row_for rs
  rows_are [] = refl
  rows_are (r ∷ rs) = ap (λ (ws : List Row). row_for r ∷ ws) (rows_are rs)

  -- the records stand at the ranks of the rows
  taken_at : (i : ℕ) (r : Row) → slice_get (map row_for ranks) i ≡ Some r → slice_get log r.rank ≡ Some (r.vector, by_rank ks ranks r.origin)
  taken_at i r e =
      let at = mapped_from row_for ranks i r e in
      let k = at.0 in
      let low : k < length log = All-slice_get (λ n. n < length log) ranks i k ranks-within at.1 in
      let d : Record = ([], Gen 0) in
      let vector : get_or (rows_of log) k [] ≡ (get_or log k d).0 = get_or-map (λ (r : Record). r.0) log k d [] low in
      let valid_k = All-from_recursion (λ (r : Record). IsOriginOver ks (length log) r.1) log valid k d low in
      let origin : by_rank ks ranks (by_position ks places (get_or log k d).1) ≡ (get_or log k d).1 = by_rank_back (get_or log k d).1 valid_k in
      subst (λ (w : Row). slice_get log w.rank ≡ Some (w.vector, by_rank ks ranks w.origin)) at.2
      (slice_get-get_or log k d low ∙ (λ l. Some (sym vector l, sym origin l)))

  named_all : AllByRecursion (λ (r : Row). AllByRecursion (λ a. a < length ranks) (arguments_of ks r.origin)) (map row_for ranks)
  named_all =
      all_map (λ (r : Row). AllByRecursion (λ a. a < length ranks) (arguments_of ks r.origin)) row_for ranks
      (all_weaker (λ r. r < length log) (λ r. AllByRecursion (λ a. a < length ranks) (arguments_of ks (row_for r).origin)) (λ r low.
      named_below (slice_index_or log r ([], Gen 0)).1 (All-from_recursion (λ (q : Record). IsOriginOver ks (length log) q.1) log valid r ([], Gen 0) low)) ranks ranks-within)

  -- the rows are arranged
  pub arranged : IsArranged ks log (listed (rows_of log) ranks (origins_at ks places log ranks))
  arranged =
      let rows = rows_are ranks in
      let ranks_are = ranks_of-listed (rows_of log) ranks (origins_at ks places log ranks) count_os in
      let n = length-listed (rows_of log) ranks (origins_at ks places log ranks) count_os in
      let all : length ranks ≡ length (rows_of log) = ranking.count in
      record {
        increasing = subst IsIncreasing (sym (vectors_of-listed (rows_of log) ranks (origins_at ks places log ranks) count_os)) ranking.increasing;
        count = n ∙ all ∙ length-map log (λ (r : Record). r.0);
        ranks = subst (EachOnceBelow (length (listed (rows_of log) ranks (origins_at ks places log ranks)))) (sym ranks_are) (subst (λ m. EachOnceBelow m ranks) (sym (n ∙ all)) ranking.once);
        named = subst (λ m. AllByRecursion (λ (r : Row). AllByRecursion (λ a. a < m) (arguments_of ks r.origin)) (listed (rows_of log) ranks (origins_at ks places log ranks))) (sym n)
            (subst (λ (ws : List Row). AllByRecursion (λ (r : Row). AllByRecursion (λ a. a < length ranks) (arguments_of ks r.origin)) ws) (sym rows) named_all);
        taken = λ i r e. subst (λ (ns : List ℕ). slice_get log r.rank ≡ Some (r.vector, by_rank ks ns r.origin)) (sym ranks_are) (taken_at i r (ap (λ (ws : List Row). slice_get ws i) (sym rows) ∙ e));
      }
