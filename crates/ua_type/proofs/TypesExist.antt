-- That the types of all covers are told: pairs are tried in order up to the first subtrace, and what its squares hold is decided.
use Rattle.std.proofs.Common.{◌≡◌, ◌≢◌, ◌⊎◌, ◌↔◌, inl, inr, ⊎_elim, ℕ, zero, suc, ◌+◌, ◌^◌, ◌<◌, ◌≤◌, Bool, true, false, List, [], ◌∷◌, ◌++◌, length, map, replicate, Result, Ok, Err, Vec, refl, sym, ap, ◌∙◌, subst, arith}
use Rattle.std.specs.Prelude.{Contains, IsTrue, slice_index}
use Rattle.std.specs.List.{AllByRecursion, range_with_len}
use Rattle.std.specs.declared.alloc.Global.{Global}
use Rattle.std.proofs.lemmas.Bool.{cases_eq, cases_lt}
use Rattle.std.proofs.lemmas.List.{append_assoc, append-nil, length-map, map-append}
use Rattle.std.proofs.lemmas.List.Elements.{Contains-append_right}
use denote.RawPtr.{null_ptr}
use Rattle.ua_table.specs.Algebras.{Vector, FiniteAlgebra, Product, IsAlgebra, IsProduct, IsVector, arities}
use Rattle.ua_table.specs.Generated.{HasMoreThan}
use Rattle.ua_table.specs.Numbering.{records}
use Rattle.ua_table.proofs.Choices.{in_range}
use Rattle.ua_table.proofs.Firsts.{IsFirstOf, first_of}
use Rattle.ua_table.proofs.ListingLaws.{closed_has_no_more, exceeding_has_more}
use Rattle.ua_table.proofs.Lists.{Contains-head, all_append}
use Rattle.ua_close.specs.declared.close.Closure.{Closure}
use Rattle.ua_close.specs.declared.close.Closure.TheVariants as closures
use Rattle.ua_close.specs.declared.close.CloseError.{CloseError}
use Rattle.ua_close.specs.declared.close.CloseError.TheVariants.{Wide, OutOfMemory}
use Rattle.ua_close.specs.Answers.{Answers, cells}
use Rattle.ua_close.specs.Permitted.{IsAnswerable}
use Rattle.ua_close.proofs.AnswerLaws.{wide_or}
use Rattle.ua_close.proofs.KindLaws.{one_kind, members_vectors}
use Rattle.ua_part.specs.Partitions.{Partition, SameBlock}
use Rattle.ua_prod.specs.Congruences.{IsCongruence}
use Rattle.ua_lattice.specs.declared.lattice.Lattice.{Lattice}
use Rattle.ua_lattice.specs.declared.lattice.Lattice.TheVariants as lattices
use Rattle.ua_lattice.specs.Answers.{IsLatticeOf}
use Rattle.ua_lattice.specs.Lattices.{IsCover, IsWholeLattice, at}
use Rattle.ua_type.specs.declared.tables.Types.{Types}
use Rattle.ua_type.specs.declared.tables.Types.TheVariants as tables
use Rattle.ua_type.specs.declared.typings.Typed.{Typed}
use Rattle.ua_type.specs.declared.typings.Typed.TheVariants.{Found, Exceeds}
use Rattle.ua_type.specs.Outcomes.{IsMinimal}
use Rattle.ua_type.specs.Permitted.{MayType, MayTypes, places_of, IsRow}
use Rattle.ua_type.specs.Quotients.{quotient_by, image_of, leader_of}
use Rattle.ua_type.specs.Subtraces.{pair_generators, Generates, IsFirstSubtrace}
use Rattle.ua_type.specs.Trials.{AllWithin, SomeExceeds, ArePairsNarrow}
use Rattle.ua_type.specs.Types.{square_generators, GeneratesSquare, HasType, type_number}
use Rattle.ua_type.specs.inner.Images.{RelatesTwo}
use Rattle.ua_type.specs.inner.Outcomes.{IsVain, AreVainBelow, AreVainAt}
use Rattle.ua_type.proofs.Descent.{refuted_or}
use Rattle.ua_type.proofs.ImageLaws.{image_differs}
use Rattle.ua_type.proofs.PairLaws.{square-IsProduct, pair_vectors, member_or, generates_or, cover_congruence}
use Rattle.ua_type.proofs.QuotientLaws.{quotient-IsAlgebra}
use Rattle.ua_type.proofs.SearchLaws.{exceeds, first_is, within_is, not_all_vain}
use Rattle.ua_type.proofs.SquareLaws.{fourth-IsProduct, square_vectors}
use Rattle.ua_type.proofs.TrialLaws.{narrow_all, wide_all}

-- ---- what is decided

more_or : (p : Product) (gens : List Vector) (b : ℕ) → IsProduct p → AllByRecursion (IsVector p) gens → HasMoreThan p gens b ⊎ (HasMoreThan p gens b → ⊥)
more_or p gens b product admitted = let h = one_kind p gens product admitted b in by h.closure h.answers
  where
    by : (closure : Closure) → Answers p gens b closure → HasMoreThan p gens b ⊎ (HasMoreThan p gens b → ⊥)
    by (closures.Closed rows) h = inr (closed_has_no_more p gens b rows h)
    by (closures.Exceeds rows) h = inl (exceeding_has_more p gens b rows h)

-- a test of what is one or the other
record HasTest (P : Type 0) : Type 0 where
  test : Bool
  tells : IsTrue test ↔ P

test_of : (P : Type 0) → P ⊎ (P → ⊥) → HasTest P
test_of P either = ⊎_elim
    (λ yes. record { test = true; tells = (λ _. yes, λ _. refl) })
    (λ no. record { test = false; tells = (λ t. absurd (cc), λ yes. absurd (no yes)) })
    either

-- some number below n has a property, or none has
some_below : (P : ℕ → Type 0) → ((k : ℕ) → P k ⊎ (P k → ⊥)) → (n : ℕ) → ((k : ℕ) × P k) ⊎ ((k : ℕ) → k < n → P k → ⊥)
some_below P decided n = ⊎_elim
    (λ (r : IsFirstOf (λ (k : ℕ). []) P (range_with_len 0 n)). inl (r.item, r.passes))
    (λ none. inr (λ k low. none k (in_range 0 n k (omega arith) (omega (arith, low)))))
    (first_of (λ (k : ℕ). []) P decided (range_with_len 0 n))

-- ---- the first subtrace

module _ (b : FiniteAlgebra) (theta : Partition) (budget : ℕ) (alg : IsAlgebra b) (cb : IsCongruence b theta) (two : RelatesTwo theta) where
  -- the first subtrace, where all sets of pairs are within the budget
  record HasFirst : Type 0 where
    low : ℕ
    high : ℕ
    low_in : low < b.size
    high_in : high < b.size
    first : IsFirstSubtrace b theta low high
    within : AllWithin b theta budget

  abbrev Ends : Type 0
  Ends = SomeExceeds b theta budget ⊎ HasFirst

  one_tried : (x y : ℕ) → x < b.size → y < b.size → AreVainBelow b theta budget x → AreVainAt b theta budget x y → AreVainAt b theta budget x (suc y) ⊎ Ends
  one_tried x y xw yw below vain = ⊎_elim
      (λ same. inl (λ d w s differ. ⊎_elim (λ low. vain d low s differ) (λ high. absurd (differ (let is : x ≡ d = omega (arith, w, high, same) in is))) (cases_lt d y)))
      (λ differ. ⊎_elim
      (λ e. tried (record { left = in_theta x xw; right = in_theta y yw; same = e }) differ)
      (λ apart. inl (λ d w s n. ⊎_elim (λ low. vain d low s n) (λ high. absurd (apart (let is : d ≡ y = omega (arith, w, high) in s.same ∙ ap (slice_index theta) is))) (cases_lt d y)))
      (cases_eq (slice_index theta x) (slice_index theta y)))
      (cases_eq x y)
    where
      in_theta : (k : ℕ) → k < b.size → k < length theta
      in_theta k w = let n = cb.size in omega (arith, w, n)

      decide : (c d e f : ℕ) → SameBlock theta c d → Generates b c d e f ⊎ ¬ Generates b c d e f
      decide c d e f s = let n = cb.size in let l = s.left in let r = s.right in generates_or b alg c d e f (omega (arith, l, n)) (omega (arith, r, n))

      tried : SameBlock theta x y → x ≢ y → AreVainAt b theta budget x (suc y) ⊎ Ends
      tried s differ = ⊎_elim
          (λ more. inr (inl (exceeds b theta budget x y below vain s differ more)))
          (λ few. ⊎_elim
          (λ refuted. inl (λ d w t n. ⊎_elim (λ low. vain d low t n) (λ high. let is : y ≡ d = omega (arith, w, high) in subst (IsVain b budget x) is (record { within = few; refuted = refuted })) (cases_lt d y)))
          (λ minimal.
          let swap = test_of (Generates b x y y x) (generates_or b alg x y y x xw yw) in
          let is : IsMinimal b budget x y swap.test = record { within = few; minimal = minimal; swaps = swap.tells } in
          inr (inr (record { low = x; high = y; low_in = xw; high_in = yw; first = first_is b theta budget x y below vain s differ swap.test is; within = within_is b theta budget x y below vain s differ swap.test is })))
          (refuted_or b theta cb decide x y s))
          (more_or (replicate 2 b) (pair_generators b x y) budget (square-IsProduct b alg) (pair_vectors b x y xw yw))

  row_tried : (x : ℕ) → x < b.size → AreVainBelow b theta budget x → (y : ℕ) → y ≤ b.size → AreVainAt b theta budget x y ⊎ Ends
  row_tried x xw below zero h = inl (λ d w s n. absurd (omega (arith, w)))
  row_tried x xw below (suc y) h = ⊎_elim (λ vain. one_tried x y xw (omega (arith, h)) below vain) (λ ends. inr ends) (row_tried x xw below y (omega (arith, h)))

  rows_tried : (x : ℕ) → x ≤ b.size → AreVainBelow b theta budget x ⊎ Ends
  rows_tried zero h = inl (λ c d w s n. absurd (omega (arith, w)))
  rows_tried (suc x) h = ⊎_elim
      (λ below. ⊎_elim
      (λ vain. inl (λ c d w s n. ⊎_elim
      (λ low. below c d low s n)
      (λ high.
      let is : x ≡ c = omega (arith, w, high) in
      let right = s.right in
      let size = cb.size in
      subst (λ k. SameBlock theta k d → k ≢ d → IsVain b budget k d) is (λ t m. vain d (omega (arith, right, size)) t m) s n)
      (cases_lt c x)))
      (λ ends. inr ends)
      (row_tried x (omega (arith, h)) below b.size (omega arith)))
      (λ ends. inr ends)
      (rows_tried x (omega (arith, h)))

  first_exists : Ends
  first_exists = ⊎_elim (λ vain. absurd (not_all_vain b theta budget cb two vain)) (λ ends. ends) (rows_tried b.size (omega arith))

-- ---- the type of a pair

module _ (b : FiniteAlgebra) (x y : ℕ) (alg : IsAlgebra b) (xw : x < b.size) (yw : y < b.size) where
  square_or : (square : Vector) → GeneratesSquare b x y square ⊎ (GeneratesSquare b x y square → ⊥)
  square_or square = member_or (replicate 4 b) (square_generators b x y) (fourth-IsProduct b alg) (square_vectors b x y xw yw) square

  last_in : (z : ℕ) → GeneratesSquare b x y (x ∷ y ∷ y ∷ z ∷ []) → z < b.size
  last_in z g = (members_vectors (replicate 4 b) (square_generators b x y) (fourth-IsProduct b alg) (square_vectors b x y xw yw) (x ∷ y ∷ y ∷ z ∷ []) g).1.1.1.0

  affine_or : ((z : ℕ) × GeneratesSquare b x y (x ∷ y ∷ y ∷ z ∷ [])) ⊎ ((z : ℕ) × GeneratesSquare b x y (x ∷ y ∷ y ∷ z ∷ []) → ⊥)
  affine_or = ⊎_elim
      (λ one. inl one)
      (λ none. inr (λ h. none h.0 (last_in h.0 h.1) h.1))
      (some_below (λ z. GeneratesSquare b x y (x ∷ y ∷ y ∷ z ∷ [])) (λ z. square_or (x ∷ y ∷ y ∷ z ∷ [])) b.size)

  type_exists : (number : ℕ) × HasType b x y number
  type_exists =
      let swap = test_of (Generates b x y y x) (generates_or b alg x y y x xw yw) in
      let meet = test_of (GeneratesSquare b x y (x ∷ x ∷ x ∷ y ∷ [])) (square_or (x ∷ x ∷ x ∷ y ∷ [])) in
      let join = test_of (GeneratesSquare b x y (x ∷ y ∷ y ∷ y ∷ [])) (square_or (x ∷ y ∷ y ∷ y ∷ [])) in
      let affine = test_of ((z : ℕ) × GeneratesSquare b x y (x ∷ y ∷ y ∷ z ∷ [])) affine_or in (
        type_number swap.test meet.test join.test affine.test,
        record {
          swap = swap.test;
          meet = meet.test;
          join = join.test;
          affine = affine.test;
          swaps = swap.tells;
          meets = meet.tells;
          joins = join.tells;
          is_affine = affine.tells;
          number_is = refl;
        },
      )

-- ---- the type of a cover

-- a type, or sets that are too wide
abbrev IsToldType : FiniteAlgebra → Partition → Partition → ℕ → Type 0
IsToldType a alpha beta budget = ((typed : Typed) × MayType a alpha beta budget (Ok typed)) ⊎ ((r : ℕ) × (c : ℕ) × MayType a alpha beta budget (Err (Wide r c)))

module _ (a : FiniteAlgebra) (alpha beta : Partition) (budget : ℕ) (alg : IsAlgebra a) (cover : IsCover a alpha beta) where
  abbrev b : FiniteAlgebra
  b = quotient_by a alpha

  abbrev theta : Partition
  theta = image_of alpha beta

  quotient : IsAlgebra b
  quotient = quotient-IsAlgebra a alpha alg cover.lower

  two : RelatesTwo theta
  two = image_differs a alpha beta cover.lower cover.upper cover.below cover.differ

  found_type : ArePairsNarrow b budget → HasFirst b theta budget quotient (cover_congruence a alpha beta alg cover) two → IsToldType a alpha beta budget
  found_type narrow f = ⊎_elim
      (λ wide. inr (
        records (arities (replicate 4 b)) (length squares) budget,
        cells (replicate 4 b) budget,
        inr (narrow, record { low = f.low; high = f.high; subtrace = f.first; within = f.within; cause = (wide, refl, refl) }),
      ))
      (λ fits. ⊎_elim
      (λ more. inl (Exceeds, (narrow, inr (record { low = f.low; high = f.high; subtrace = f.first; within = f.within; narrow = fits; beyond = more }))))
      (λ few.
      let t = type_exists b f.low f.high quotient f.low_in f.high_in in
      inl (
        Found t.0 (leader_of alpha f.low) (leader_of alpha f.high),
        (
          narrow,
          record {
            trace = record { first = f.low; second = f.high; subtrace = f.first; within = f.within; low_is = refl; high_is = refl };
            narrow = fits;
            few = few;
            type_is = t.1;
          },
        ),
      ))
      (more_or (replicate 4 b) squares budget (fourth-IsProduct b quotient) (square_vectors b f.low f.high f.low_in f.high_in)))
      (wide_or (replicate 4 b) squares budget)
    where
      squares : List Vector
      squares = square_generators b f.low f.high

  type_told : IsToldType a alpha beta budget
  type_told = ⊎_elim
      (λ wide.
      let r = records (arities (replicate 2 b)) (length (pair_generators b 0 0)) budget in
      let c = cells (replicate 2 b) budget in
      inr (r, c, inl (wide_all b budget 0 0 (Wide r c) (wide, refl, refl))))
      (λ fits.
      let narrow = narrow_all b budget 0 0 fits in
      ⊎_elim
      (λ beyond. inl (Exceeds, (narrow, inl beyond)))
      (λ first. found_type narrow first)
      (first_exists b theta budget quotient (cover_congruence a alpha beta alg cover) two))
      (wide_or (replicate 2 b) (pair_generators b 0 0) budget)

-- ---- the types of all covers

-- a list as it would lie in memory
abbrev vec_of : {X : Type 0} → Global → (xs : List X) → length xs < 2 ^ 63 → Vec X Global
vec_of alloc xs small = record { ptr = null_ptr; len = length xs; cap = length xs; alloc = alloc; items = xs; ok = (refl, omega arith); small = small }

told_ok : (x : Types) (r : Result Types CloseError) → r ≡ Ok x → r ≢ Err OutOfMemory
told_ok x r is e = cc

told_wide : (n c : ℕ) (r : Result Types CloseError) → r ≡ Err (Wide n c) → r ≢ Err OutOfMemory
told_wide n c r is e = cc

module _ (alloc : Global) (a : FiniteAlgebra) (budget : ℕ) (alg : IsAlgebra a) (list : List Partition) (covers : List (ℕ × ℕ)) (irreducibles : List ℕ)
    (lattice : IsWholeLattice a budget list covers irreducibles) (small : length covers < 2 ^ 63) where
  rows_told : (rows : List (ℕ × ℕ × Typed)) (rest : List (ℕ × ℕ)) → map places_of rows ++ rest ≡ covers → AllByRecursion (IsRow a budget list) rows → IsAnswerable (MayTypes a budget) OutOfMemory
  rows_told rows [] whole told =
      let all : map places_of rows ≡ covers = sym (append-nil (map places_of rows)) ∙ whole in
      let n = length-map rows places_of in
      let count = ap length all in
      let t = tables.Table (vec_of alloc rows (omega (arith, n, count, small))) in
      record {
        answer = Ok t;
        permitted = record { list = list; irreducibles = irreducibles; lattice = subst (λ (cs : List (ℕ × ℕ)). IsWholeLattice a budget list cs irreducibles) (sym all) lattice; types = told };
        told = told_ok t (Ok t) refl;
      }
  rows_told rows (next ∷ rest) whole told = ⊎_elim
      (λ typed.
      let row : ℕ × ℕ × Typed = (next.0, next.1, typed.0) in
      rows_told (rows ++ row ∷ []) rest
      (ap (λ (cs : List (ℕ × ℕ)). cs ++ rest) (map-append places_of rows (row ∷ [])) ∙ append_assoc (map places_of rows) (next ∷ []) rest ∙ whole)
      (all_append (IsRow a budget list) rows (row ∷ []) told (typed.1, tt)))
      (λ wide. record {
        answer = Err (Wide wide.0 wide.1);
        permitted = record { list = list; covers = covers; irreducibles = irreducibles; lattice = lattice; among = record { rows = rows; cover = next; behind = rest; covers_are = sym whole; types = told; wide = wide.2 } };
        told = told_wide wide.0 wide.1 (Err (Wide wide.0 wide.1)) refl;
      })
      (type_told a (at list next.0) (at list next.1) budget alg cover)
    where
      contained : Contains covers next
      contained = subst (λ (cs : List (ℕ × ℕ)). Contains cs next) whole (Contains-append_right (map places_of rows) (next ∷ rest) next (Contains-head next rest))

      cover : IsCover a (at list next.0) (at list next.1)
      cover = ((lattice.covering.all next.0 next.1).0 contained).2

  pub covers_told : IsAnswerable (MayTypes a budget) OutOfMemory
  covers_told = rows_told [] covers refl tt

-- where the lattice is told
pub types_told : (alloc : Global) (a : FiniteAlgebra) (budget : ℕ) → IsAlgebra a → (lattice : Lattice) → IsLatticeOf a budget lattice → IsAnswerable (MayTypes a budget) OutOfMemory
types_told alloc a budget alg (lattices.Whole list covers irreducibles) is = covers_told alloc a budget alg list.items covers.items irreducibles.items is (let n = covers.ok.0 in let s = covers.small in omega (arith, n, s))
types_told alloc a budget alg (lattices.Exceeds list) is = let t = tables.Exceeds list in record { answer = Ok t; permitted = is; told = told_ok t (Ok t) refl }
