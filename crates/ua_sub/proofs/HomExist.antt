-- That it is told whether images go on to a homomorphism: a map, the first clash of a listing, or more pairs than the budget.
use Rattle.std.proofs.Common.{◌≡◌, ◌≢◌, ◌⊎◌, inl, inr, ⊎_elim, ℕ, ◌<◌, ◌≤◌, true, false, List, [], ◌∷◌, length, map, get_or, Some, Result, Ok, Err, refl, sym, ap, ◌∙◌, arith}
use Rattle.std.specs.Prelude.{Contains, slice_get}
use Rattle.std.specs.Cmp.{nat_cmp_is}
use Rattle.std.specs.Cmp.Lexicographic.{slice_cmp}
use Rattle.std.specs.List.{AllByRecursion, range_with_len, flat_map}
use Rattle.std.specs.Ordering.{nat_cmp, ordering_then, is_gt}
use Rattle.std.specs.declared.cmp.Ordering.TheVariants.{Equal, Greater}
use Rattle.std.proofs.lemmas.Bool.{cases_lt, cases_eq}
use Rattle.std.proofs.lemmas.List.{length-map}
use Rattle.ua_table.specs.Algebras.{FiniteAlgebra, Product, Vector, IsAlgebra, IsProduct, IsVector, arities, signature}
use Rattle.ua_table.specs.Counting.{EachOnceBelow}
use Rattle.ua_table.specs.Listings.{Row, vectors_of, ranks_of}
use Rattle.ua_table.specs.Numbering.{records}
use Rattle.ua_table.proofs.Choices.{in_range}
use Rattle.ua_table.proofs.Lists.{found, All-slice_get, Contains-map, Contains-flat_map}
use Rattle.ua_work.specs.Goals.{clashes, Meets}
use Rattle.ua_work.specs.declared.goals.Goal.TheVariants as goals
use Rattle.ua_close.specs.Answers.{cells}
use Rattle.ua_close.specs.Needed.{rank_at}
use Rattle.ua_close.specs.Permitted.{IsAnswerable}
use Rattle.ua_close.proofs.AnswerLaws.{wide_or}
use Rattle.ua_table.proofs.Firsts.{IsFirstOf, first_of}
use Rattle.ua_close.proofs.GrowthLaws.{HasSerialListing, IsJustMetBy, serial_listing_exists}
use Rattle.ua_close.proofs.KindLaws.{members_vectors}
use Rattle.ua_close.proofs.MetLaws.{true_or, vector_or, goal_test}
use Rattle.ua_close.proofs.RowSteps.{steps_exist}
use Rattle.ua_sub.specs.Homs.{both, two, with_images, vector_at, ClashInOrder, IsFirstPairClash, Maps, IsSerialHom}
use Rattle.ua_sub.specs.Permitted.{MayMapPairs, MayMap, AreElements}
use Rattle.ua_sub.specs.declared.homs.Hom.{Hom}
use Rattle.ua_sub.specs.declared.homs.Hom.TheVariants.{Map, Clash, Exceeds}
use Rattle.ua_sub.specs.declared.homs.HomError.{HomError}
use Rattle.ua_sub.specs.declared.homs.HomError.TheVariants.{Signature, Wide, OutOfMemory}
use Rattle.ua_sub.proofs.HomLaws.{by_entries, widths, not_all, map_is, clash_is, images_admitted, of_both}

-- ---- the first clash of rows

abbrev all_pairs : ℕ → List (ℕ × ℕ)
all_pairs n = flat_map (λ i. map (λ j. (i, j)) (range_with_len 0 n)) (range_with_len 0 n)

pair_in : (n i j : ℕ) → i < n → j < n → Contains (all_pairs n) (i, j)
pair_in n i j hi hj =
    Contains-flat_map (λ k. map (λ l. (k, l)) (range_with_len 0 n)) i (i, j) (range_with_len 0 n) (in_range 0 n i (omega arith) (omega (arith, hi)))
    (Contains-map (λ l. (i, l)) j (range_with_len 0 n) (in_range 0 n j (omega arith) (omega (arith, hj))))

up_to : (m n : ℕ) → is_gt (slice_cmp nat_cmp (m ∷ []) (n ∷ [])) ≡ false → m ≤ n
up_to m n h = ⊎_elim
    (λ l. absurd (let bad : true ≡ false = ap (λ o. is_gt (ordering_then o Equal)) (nat_cmp_is m n Greater l) ∙ h in cc))
    (λ le. le)
    (cases_lt n m)

module _ (rows : List Row) (once : EachOnceBelow (length rows) (ranks_of rows)) (met : Meets goals.Clash (vectors_of rows)) where
  abbrev InOrder : ℕ × ℕ → Type 0
  InOrder x = ClashInOrder rows x.0 x.1

  abbrev later_rank : ℕ × ℕ → List ℕ
  later_rank x = rank_at rows x.1 ∷ []

  in_order_or : (x : ℕ × ℕ) → InOrder x ⊎ (InOrder x → ⊥)
  in_order_or x = ⊎_elim
      (λ i. ⊎_elim
      (λ j. ⊎_elim
      (λ order. ⊎_elim
      (λ clash. inl (record { earlier_within = i; later_within = j; order = order; clash = clash }))
      (λ no. inr (λ h. no h.clash))
      (true_or (clashes (vector_at rows x.0) (vector_at rows x.1))))
      (λ le. inr (λ h. let l = h.order in omega (arith, l, le)))
      (cases_lt (rank_at rows x.0) (rank_at rows x.1)))
      (λ le. inr (λ h. let l = h.later_within in omega (arith, l, le)))
      (cases_lt x.1 (length rows)))
      (λ le. inr (λ h. let l = h.earlier_within in omega (arith, l, le)))
      (cases_lt x.0 (length rows))

  record HasFirstClash : Type 0 where
    earlier : ℕ
    later : ℕ
    first : IsFirstPairClash rows earlier later

  first_clash : HasFirstClash
  first_clash = ⊎_elim
      (λ (r : IsFirstOf later_rank InOrder (all_pairs (length rows))). record {
        earlier = r.item.0;
        later = r.item.1;
        first = record { clash = r.passes; first = λ k l c. up_to (rank_at rows r.item.1) (rank_at rows l) (r.first (k, l) (pair_in (length rows) k l c.earlier_within c.later_within) c) };
      })
      (λ none. absurd (not_all rows once met (length rows) (omega arith) (λ k l c. absurd (none (k, l) (pair_in (length rows) k l c.earlier_within c.later_within) c))))
      (first_of later_rank InOrder in_order_or (all_pairs (length rows)))

-- ---- rows as pairs

abbrev pair_of : Vector → ℕ × ℕ
pair_of v = (get_or v 0 0, get_or v 1 0)

pairs_are : (vs : List Vector) → AllByRecursion (λ (v : Vector). length v ≡ 2) vs → map two (map pair_of vs) ≡ vs
pairs_are [] h = refl
pairs_are (v ∷ vs) h = λ i. by_entries v (get_or v 0 0) (get_or v 1 0) h.0 refl refl i ∷ pairs_are vs h.1 i

pair_at : (vs : List Vector) → AllByRecursion (λ (v : Vector). length v ≡ 2) vs → (i : ℕ) → i < length vs → (q : ℕ × ℕ) × (slice_get vs i ≡ Some (two q))
pair_at vs h i low =
    let f = found vs i low in
    let one = All-slice_get (λ (v : Vector). length v ≡ 2) vs i f.0 h f.1 in
    (pair_of f.0, f.1 ∙ ap Some (sym (by_entries f.0 (get_or f.0 0 0) (get_or f.0 1 0) one refl refl)))

-- ---- what is told

module _ (p : Product) (gens : List Vector) (b : ℕ) (product : IsProduct p) (admitted : AllByRecursion (IsVector p) gens) (two_wide : length p ≡ 2) where
  record HasHom : Type 0 where
    hom : Hom
    maps : Maps p gens b hom
    serial : IsSerialHom p gens b hom

  clash_hom : (l : HasSerialListing p gens product admitted (Meets goals.Clash) (goal_test goals.Clash) b) → IsJustMetBy p gens product admitted (Meets goals.Clash) (goal_test goals.Clash) b l.rows → HasHom
  clash_hom l met =
      let rows = l.rows in
      let c = first_clash rows met.listing.ranks met.met in
      let wide = widths p gens rows two_wide (members_vectors p gens product admitted) met.listing in
      let count = length-map rows (λ (r : Row). r.vector) in
      let low = c.first.clash.earlier_within in
      let high = c.first.clash.later_within in
      let q = pair_at (vectors_of rows) wide c.earlier (omega (arith, low, count)) in
      let r = pair_at (vectors_of rows) wide c.later (omega (arith, high, count)) in
      let s = steps_exist p gens rows met.listing c.earlier low in
      let t = steps_exist p gens rows met.listing c.later high in
      let is = clash_is p gens rows c.earlier c.later q.0 r.0 s.steps t.steps c.first q.1 r.1 (s.value (two q.0) q.1) (t.value (two r.0) r.1) s.needed t.needed in
      record {
        hom = Clash q.0.0 q.0.1 r.0.1 s.steps t.steps;
        maps = is.0;
        serial = record { rows = rows; listing = met.listing; count = met.count; serial = l.serial; clash = is.1 };
      }

  hom_exists : HasHom
  hom_exists =
      let l = serial_listing_exists p gens product admitted (Meets goals.Clash) (goal_test goals.Clash) b in
      let rows = l.rows in
      ⊎_elim
      (λ closed.
      let wide = widths p gens rows two_wide (members_vectors p gens product admitted) closed.0.listing in
      let pairs = map pair_of (vectors_of rows) in
      record { hom = Map pairs; maps = map_is p gens b rows pairs closed.0 closed.1 (pairs_are (vectors_of rows) wide); serial = tt })
      (λ ended. ⊎_elim
      (λ exceeding.
      record { hom = Exceeds; maps = (rows, record { listing = exceeding.0; graph = exceeding.1 }); serial = (rows, record { listing = exceeding.0; graph = exceeding.1 }, l.serial) })
      (λ met. clash_hom l met)
      ended)
      l.ends

  pairs_told : (w : ℕ) → IsAnswerable (MayMapPairs p gens b w) OutOfMemory
  pairs_told w = ⊎_elim
      (λ wide.
      let n = records (arities p) (length gens) b in
      let c = cells p b in
      record { answer = Err (Wide n c); permitted = (wide, refl, refl); told = wide_told n c (Err (Wide n c)) refl })
      (λ narrow. let h = hom_exists in record { answer = Ok h.hom; permitted = (narrow, h.maps, λ one. h.serial); told = hom_told h.hom (Ok h.hom) refl })
      (wide_or p gens b)
    where
      hom_told : (h : Hom) (r : Result Hom HomError) → r ≡ Ok h → r ≢ Err OutOfMemory
      hom_told h r is e = cc

      wide_told : (n c : ℕ) (r : Result Hom HomError) → r ≡ Err (Wide n c) → r ≢ Err OutOfMemory
      wide_told n c r is e = cc

-- ---- of two algebras

-- two signatures are the same or not
signature_or : (s t : List (List ℕ × ℕ)) → (s ≡ t) ⊎ (s ≢ t)
signature_or [] [] = inl refl
signature_or [] (y ∷ t) = inr (λ e. cc)
signature_or (x ∷ s) [] = inr (λ e. cc)
signature_or (x ∷ s) (y ∷ t) = ⊎_elim
    (λ name. ⊎_elim
    (λ arity. ⊎_elim
    (λ rest. inl (λ i. (name i, arity i) ∷ rest i))
    (λ no. inr (λ e. no (let rest : s ≡ t = cc in rest)))
    (signature_or s t))
    (λ no. inr (λ e. no (let head : x ≡ y = cc in ap (λ (z : List ℕ × ℕ). z.1) head)))
    (cases_eq x.1 y.1))
    (λ no. inr (λ e. no (let head : x ≡ y = cc in ap (λ (z : List ℕ × ℕ). z.0) head)))
    (vector_or x.0 y.0)

pub map_told : (a b : FiniteAlgebra) (gens images : List ℕ) (budget w : ℕ) → IsAlgebra a → IsAlgebra b → AreElements a gens → AreElements b images → IsAnswerable (MayMap a b gens images budget w) OutOfMemory
map_told a b gens images budget w alg other elements values = ⊎_elim
    (λ similar.
    let product : IsProduct (both a b) = record { wide = omega arith; algebras = (alg, (other, tt)); similar = (refl, (similar, tt)) } in
    let h = pairs_told (both a b) (with_images gens images) budget product (images_admitted a b gens images elements values) refl w in
    record { answer = h.answer; permitted = of_both a b gens images (both a b) (with_images gens images) budget w h.answer similar refl refl h.permitted; told = h.told })
    (λ differ. record { answer = Err Signature; permitted = differ; told = signature_told (Err Signature) refl })
    (signature_or (signature b) (signature a))
  where
    signature_told : (r : Result Hom HomError) → r ≡ Err Signature → r ≢ Err OutOfMemory
    signature_told r is e = cc
