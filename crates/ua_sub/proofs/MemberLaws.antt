-- Listings of width 1, as lists of elements.
use Rattle.std.proofs.Common.{◌≡◌, ℕ, suc, ◌++◌, take, get_or, Some, ◌+◌, ◌*◌, ◌^◌, ◌<◌, ◌≤◌, List, [], ◌∷◌, length, refl, sym, ap, ◌∙◌, subst, arith, ⊎_elim}
use Rattle.std.specs.Prelude.{Contains, slice_get, slice_index, Vec}
use Rattle.std.specs.declared.alloc.Global.{Global}
use Rattle.std.specs.Cmp.Lexicographic.{slice_cmp}
use Rattle.std.specs.List.{AllByRecursion, AllZip}
use Rattle.std.specs.List.Sorted.{IsStrictlySortedBy}
use Rattle.std.specs.Ordering.{nat_cmp, ordering_then}
use Rattle.std.specs.declared.cmp.Ordering.{Ordering}
use Rattle.std.specs.declared.cmp.Ordering.TheVariants.{Less, Equal, Greater}
use Rattle.std.proofs.Math.Seq.{take-suc}
use Rattle.std.proofs.Math.Nat.{pow-le-pow_right, mul-le-mul}
use Rattle.std.proofs.lemmas.Option.{slice_get_within, get_or_from_slice_get}
use Rattle.std.proofs.lemmas.Map.Keys.{IsStrictlyIncreasing-from_sorted}
use Rattle.ua_table.specs.Algebras.{FiniteAlgebra, Vector, IsAlgebra, IsProduct, IsVector, IsIncreasing, arities_of, arities, value_at, column}
use Rattle.ua_table.specs.Generated.{Sg, HasMoreThan}
use Rattle.ua_table.specs.Listings.{Row, vectors_of, IsClosedListing, IsExceedingListing}
use Rattle.ua_table.specs.Numbering.{greatest, IsShape}
use Rattle.ua_table.specs.declared.limits.TheConstants.{SIZE, ARITY, OPERATIONS}
use Rattle.ua_table.proofs.Choices.{greatest_tops}
use Rattle.ua_table.proofs.GeneratedLaws.{generator_in, result_in}
use Rattle.ua_table.proofs.ListingLaws.{exceeding_has_more}
use Rattle.ua_close.specs.Answers.{IsWide}
use Rattle.ua_close.specs.Kinds.{cardinality}
use Rattle.ua_close.proofs.KindLaws.{members_vectors}
use Rattle.std.proofs.lemmas.List.{length-map, get_or_default}
use Rattle.ua_table.proofs.Lists.{all_at, all_weaker, all_map, Contains-map, Contains-map_from, all_from_contains, AllZip-length, AllZip-push}
use Rattle.ua_table.specs.Counting.{numbers_below}
use Rattle.ua_sub.specs.Members.{singles, contents, AreMembers}

less_then : (o : Ordering) → ordering_then o Equal ≡ Less → o ≡ Less
less_then Less e = refl
less_then Equal e = e
less_then Greater e = e

single_less : (x y : ℕ) → slice_cmp nat_cmp (x ∷ []) (y ∷ []) ≡ Less → nat_cmp x y ≡ Less
single_less x y e = less_then (nat_cmp x y) e

above : (x : ℕ) (ys : List ℕ) → AllByRecursion (λ (w : Vector). slice_cmp nat_cmp (x ∷ []) w ≡ Less) (singles ys) → AllByRecursion (λ y. nat_cmp x y ≡ Less) ys
above x [] h = tt
above x (y ∷ ys) h = (single_less x y h.0, above x ys h.1)

-- where the vectors of one coordinate increase, their entries do
sorted : (xs : List ℕ) → IsIncreasing (singles xs) → IsStrictlySortedBy nat_cmp xs
unfolding IsStrictlySortedBy
sorted [] h = tt
sorted (x ∷ xs) h = (above x xs h.0, sorted xs h.1)

same_entry : (x y : ℕ) → (x ∷ []) ≡ (y ∷ []) → x ≡ y
same_entry x y e = cc

single_in : (x : ℕ) (xs : List ℕ) → Contains xs x → Contains (singles xs) (x ∷ [])
single_in x xs c = Contains-map (λ y. y ∷ []) x xs c

single_from : (x : ℕ) (xs : List ℕ) → Contains (singles xs) (x ∷ []) → Contains xs x
single_from x xs c = let m = Contains-map_from (λ y. y ∷ []) (x ∷ []) xs c in subst (Contains xs) (same_entry m.0 x m.2) m.1

-- the entries of a closed listing are the members
pub members_are : (a : FiniteAlgebra) (gens members : List ℕ) (b : ℕ) (rows : List Row) → IsClosedListing (a ∷ []) (singles gens) b rows → singles members ≡ vectors_of rows → AreMembers a gens members
members_are a gens members b rows closed same = record {
  ascending = IsStrictlyIncreasing-from_sorted members (sorted members (subst IsIncreasing (sym same) closed.listing.increasing));
  exact = λ x. (
    λ c. (closed.exact (x ∷ [])).0 (subst (λ (vs : List Vector). Contains vs (x ∷ [])) same (single_in x members c)),
    λ s. single_from x members (subst (λ (vs : List Vector). Contains vs (x ∷ [])) (sym same) ((closed.exact (x ∷ [])).1 s)),
  );
}

-- elements are vectors of one coordinate
pub singles_admitted : (a : FiniteAlgebra) (gens : List ℕ) → AllByRecursion (λ x. x < a.size) gens → AllByRecursion (IsVector (a ∷ [])) (singles gens)
singles_admitted a [] h = tt
singles_admitted a (x ∷ xs) h = ((h.0, tt), singles_admitted a xs h.1)

-- a row of a listing, behind those before it
pub entries_more : (xs : List ℕ) (x : ℕ) (vs : List Vector) (i : ℕ) (v : Vector) → singles xs ≡ take i vs → slice_get vs i ≡ Some v → length v ≡ 1 → x ≡ get_or v 0 0 → singles (xs ++ x ∷ []) ≡ take (i + 1) vs
entries_more xs x vs i v same at one e =
    map-append xs (x ∷ [])
    ∙ ap (λ (ws : List Vector). ws ++ (x ∷ []) ∷ []) same
    ∙ ap (λ (w : Vector). take i vs ++ w ∷ []) (only_entry v x one e)
    ∙ sym (take_more vs i v at)
  where
    map-append : (ys zs : List ℕ) → singles (ys ++ zs) ≡ singles ys ++ singles zs
    map-append [] zs = refl
    map-append (y ∷ ys) zs = ap (λ (ws : List Vector). (y ∷ []) ∷ ws) (map-append ys zs)

    only_entry : (v : Vector) (x : ℕ) → length v ≡ 1 → x ≡ get_or v 0 0 → (x ∷ []) ≡ v
    only_entry [] x one e = absurd (omega (arith, one))
    only_entry (y ∷ []) x one e = ap (λ z. z ∷ []) e
    only_entry (y ∷ z ∷ zs) x one e = absurd (omega (arith, one))

    take_more : (vs : List Vector) (i : ℕ) (v : Vector) → slice_get vs i ≡ Some v → take (i + 1) vs ≡ take i vs ++ v ∷ []
    take_more vs i v e =
        (let n : i + 1 ≡ suc i = omega arith in ap (λ m. take m vs) n) ∙ take-suc vs i v (slice_get_within vs i v e) ∙ ap (λ (w : Vector). take i vs ++ w ∷ []) (get_or_from_slice_get vs i v v e)

-- the rows of a closed listing of width 1 have one entry
pub one_entry : (a : FiniteAlgebra) (gens : List ℕ) (b : ℕ) (rows : List Row) → ((v : Vector) → Sg (a ∷ []) (singles gens) v → IsVector (a ∷ []) v)
    → IsClosedListing (a ∷ []) (singles gens) b rows → AllByRecursion (λ (v : Vector). length v ≡ 1) (vectors_of rows)
one_entry a gens b rows vectors closed = all_from_contains (λ (v : Vector). length v ≡ 1) (vectors_of rows) (λ v c. sym (AllZip-length (λ (x : FiniteAlgebra) y. y < x.size) (a ∷ []) v (vectors v ((closed.exact v).0 c))))

-- ---- why every set of elements is closed

-- with room for every element there is no listing of more
pub never_exceeds : (a : FiniteAlgebra) (gens : List ℕ) (b : ℕ) (rows : List Row) → (HasMoreThan (a ∷ []) (singles gens) b → b < cardinality (a ∷ [])) → a.size ≤ b → IsExceedingListing (a ∷ []) (singles gens) b rows → ⊥
never_exceeds a gens b rows few small beyond = let more = few (exceeding_has_more (a ∷ []) (singles gens) b rows beyond) in omega (arith, more, small)

greatest_small : (ks : List ℕ) → AllByRecursion (λ k. k ≤ ARITY) ks → greatest ks ≤ 4
greatest_small [] h = omega arith
greatest_small (k ∷ ks) h = all_at (λ x. x ≤ ARITY) (k ∷ ks) (greatest (k ∷ ks)) h (greatest_tops (k ∷ ks) (omega arith)).here

-- nor is it too wide
pub never_wide : (a : FiniteAlgebra) (gens : List ℕ) → length gens < 2 ^ 32 → IsShape (arities (a ∷ [])) → IsWide (a ∷ []) (singles gens) SIZE → ⊥
never_wide a gens few shape wide = ⊎_elim
    (λ many.
    let ks = arities (a ∷ []) in
    let g = greatest_small ks shape.small in
    let some : 0 < SIZE = omega arith in
    let power : SIZE ^ greatest ks ≤ SIZE ^ 4 = pow-le-pow_right some g in
    let all : length ks * SIZE ^ greatest ks ≤ OPERATIONS * SIZE ^ 4 = mul-le-mul shape.few power in
    let n : OPERATIONS * SIZE ^ 4 ≡ 64000000000000 = refl in
    let count = length-map gens (λ x. x ∷ []) in
    let room : 4294967296 + 1 + 64000000000000 < 2 ^ 63 = omega arith in
    omega (arith, many, all, n, count, few, room))
    (λ cells. omega (arith, cells))
    wide

-- ---- one list more

pub ones_more : (a : FiniteAlgebra) (n : ℕ) (lists lists' : List (Vec ℕ Global)) (members : Vec ℕ Global)
    → AllZip (λ x ms. AreMembers a (x ∷ []) ms) (numbers_below n) (contents lists) → lists' ≡ lists ++ members ∷ []
    → AreMembers a (n ∷ []) members.items
    → AllZip (λ x ms. AreMembers a (x ∷ []) ms) (numbers_below (n + 1)) (contents lists')
ones_more a n lists lists' members before same here =
    let e : suc n ≡ n + 1 = omega arith in
    let all = AllZip-push (λ x ms. AreMembers a (x ∷ []) ms) (numbers_below n) (contents lists) n members.items before here in
    subst (λ (z : List ℕ × List (List ℕ)). AllZip (λ x ms. AreMembers a (x ∷ []) ms) z.0 z.1) (λ i. (numbers_below (e i), (sym (contents-append lists) ∙ ap contents (sym same)) i)) all
  where
    contents-append : (vs : List (Vec ℕ Global)) → contents (vs ++ members ∷ []) ≡ contents vs ++ members.items ∷ []
    contents-append [] = refl
    contents-append (v ∷ vs) = ap (λ (ls : List (List ℕ)). v.items ∷ ls) (contents-append vs)

-- ---- members as the universe of a subalgebra

-- the entries of lists of one element are the elements
pub column_singles : (xs : List ℕ) → column (singles xs) 0 ≡ xs
column_singles [] = refl
column_singles (x ∷ xs) = ap (λ (ys : List ℕ). x ∷ ys) (column_singles xs)

module _ (a : FiniteAlgebra) (gens members : List ℕ) (are : AreMembers a gens members) where
  pub generators_in : AllByRecursion (Contains members) gens
  generators_in = all_from_contains (Contains members) gens (λ x c. (are.exact x).1 (held x (single_in x gens c)))
    where
      held : (x : ℕ) → Contains (singles gens) (x ∷ []) → Sg (a ∷ []) (singles gens) (x ∷ [])
      held x c = subst (Sg (a ∷ []) (singles gens)) (get_or_default (singles gens) c.0 [] (x ∷ []) c.1 ∙ c.2) (generator_in (a ∷ []) (singles gens) c.0 c.1)

  pub members_below : IsAlgebra a → AllByRecursion (λ x. x < a.size) gens → AllByRecursion (λ x. x < a.size) members
  members_below alg below = all_from_contains (λ x. x < a.size) members (λ x c. (members_vectors (a ∷ []) (singles gens) (line alg) (singles_admitted a gens below) (x ∷ []) ((are.exact x).0 c)).0)
    where
      line : IsAlgebra a → IsProduct (a ∷ [])
      line alg = record { wide = omega arith; algebras = (alg, tt); similar = (refl, tt) }

  pub members_closed : (f : ℕ) (args : List ℕ) → f < length (arities_of a) → length args ≡ slice_index (arities_of a) f → AllByRecursion (Contains members) args → Contains members (value_at a f args)
  members_closed f args within arity all =
      (are.exact (value_at a f args)).1
      (subst (λ (xs : List ℕ). Sg (a ∷ []) (singles gens) (value_at a f xs ∷ [])) (column_singles args)
      (result_in (a ∷ []) (singles gens) f (singles args) within (length-map args (λ x. x ∷ []) ∙ arity)
      (all_map (Sg (a ∷ []) (singles gens)) (λ x. x ∷ []) args
      (all_weaker (Contains members) (λ x. Sg (a ∷ []) (singles gens) (x ∷ [])) (λ x c. (are.exact x).0 c) args all))))
