-- What is written of an answer that is right has no flaw: steps, listings, and rows that lack a vector.
use Rattle.std.proofs.Common.{◌≡◌, ◌≢◌, ℕ, zero, suc, ◌+◌, ◌-◌, ◌<◌, ◌≤◌, Bool, true, false, not, ◌&&◌, ◌||◌, cond, Option, Some, None, List, [], ◌∷◌, ◌++◌, map, length, take, drop, replicate, codes, refl, sym, ap, ◌∙◌, subst, arith}
use Rattle.std.specs.Prelude.{Contains, slice_get, slice_index, slice_index_or, find, nat_lt, nat_eq, min, ◌==◌}
use Rattle.std.specs.List.{AllByRecursion, list_all, list_any, range_with_len}
use Rattle.std.specs.Cmp.Lexicographic.{pointwise, slice_cmp}
use Rattle.std.specs.Ordering.{nat_cmp, is_lt}
use Rattle.std.specs.declared.cmp.Ordering.TheVariants.{Less}
use Rattle.std.specs.List.Sorted.{IsStrictlySortedBy}
use Rattle.std.proofs.lemmas.Bool.Decides.{nat_tests}
use Rattle.std.proofs.lemmas.List.{length-map, take_all, take-append-drop}
use Rattle.std.proofs.lemmas.Bool.{and_from, or_from, or_parts}
use Rattle.std.proofs.lemmas.Option.{slice_get_within, get_or_from_slice_get}
use Rattle.ua_table.specs.declared.limits.TheConstants.{WIDTH}
use Rattle.ua_table.specs.declared.origins.Origin.{Origin}
use Rattle.ua_table.specs.declared.origins.Origin.TheVariants.{Gen, Op}
use Rattle.ua_table.specs.Algebras.{Vector, Operation, FiniteAlgebra, IsVector, arities, arities_of, names_of, apply, IsIncreasing, power}
use Rattle.ua_table.specs.Names.{is_reserved, is_variable}
use Rattle.ua_table.specs.Tables.{IsTable, IsAlgebraTable}
use Rattle.ua_table.specs.Counting.{one_if, times, EachOnceBelow}
use Rattle.ua_table.specs.Generated.{Sg}
use Rattle.ua_table.specs.Origins.{IsOrigin, IsApplication, arguments_of, origin_value}
use Rattle.ua_table.specs.Terms.{term_value}
use Rattle.ua_table.specs.Listings.{Row, vectors_of, ranks_of, IsMadeFrom}
use Rattle.ua_table.specs.Refusals.{first_refusal, is_outside}
use Rattle.ua_table.proofs.Lists.{found, mapped_at, mapped_from, Contains-head, Contains-tail, Contains-slice_get, All-slice_get}
use Rattle.ua_table.proofs.Counts.{one_if-same, times-Contains}
use Rattle.ua_table.proofs.GeneratedLaws.{generator_in, result_in}
use Rattle.ua_table.proofs.Choices.{range_low}
use Rattle.ua_table.proofs.RefusalLaws.{refusal_if-false}
use Rattle.ua_table.proofs.FrameLaws.{arities_of_power}
use Rattle.ua_term.specs.Meanings.{operation_number, has_operation}
use Rattle.ua_term.specs.Steps.{AreStepsFrom, AreSteps, step_values, step_term, unfolded}
use Rattle.ua_term.specs.Printing.{name_at}
use Rattle.ua_term.specs.Assignments.{assignments, IsAssignment}
use Rattle.ua_term.proofs.AssignmentLaws.{assignment_from}
use Rattle.ua_term.proofs.Naming.{named_number, named_there}
use Rattle.ua_rows.specs.RowLists.{rows_at}
use Rattle.ua_cert.specs.declared.certs.CertStep.{CertStep}
use Rattle.ua_flaws.specs.declared.flaws.Flaw.TheVariants as flaw
use Rattle.ua_flaws.specs.declared.flaws.ListName.{ListName}
use Rattle.ua_flaws.specs.declared.flaws.ListName.TheVariants.{Gens, Rows, Target}
use Rattle.ua_flaws.specs.Firsts.{first_bad, unlike_lengths, is_same, is_among}
use Rattle.ua_flaws.specs.Steps.{is_generator, arity_named, is_step, origin_of, origins_of, rows_named, last_term, written_step, written_steps, row_steps}
use Rattle.ua_flaws.specs.Shapes.{is_vector}
use Rattle.ua_flaws.specs.Closing.{is_missing, missing_of, missing}
use Rattle.ua_flaws.specs.Answers.{AreExact, IsPowerListing}
use Rattle.ua_flaws.specs.Flaws.{vectors_flaw, steps_flaw, follows, order_flaw, is_rank, first_or_short, ranks_flaw, is_made, origins_flaw, generators_flaw, results_flaw}
use Rattle.ua_flaws.specs.Flaws.{closed_flaw, outside_lines, gives_target, member_lines, member_flaw, not_member_lines, not_member_flaw, listing_lines, listing_flaw}
use Rattle.ua_flaws.proofs.FirstLaws.{among_is, both}
use Rattle.ua_flaws.proofs.PassLaws.{is_below, is_equal, are_below, is_same_vector, is_there, no_line, no_option, none_bad, none_found}

-- ---- vectors

is_power_vector : (a : FiniteAlgebra) (width : ℕ) (v : Vector) → IsVector (power a width) v → is_vector a.size width v ≡ true
is_power_vector a zero [] h = refl
is_power_vector a zero (x ∷ v) h = absurd h
is_power_vector a (suc n) [] h = absurd h
is_power_vector a (suc n) (x ∷ v) h =
    let rest = is_power_vector a n v h.1 in
    let long : (length v == n) ≡ true = (both (length v == n) (list_all (λ y. nat_lt y a.size) v) rest).0 in
    let low : list_all (λ y. nat_lt y a.size) v ≡ true = (both (length v == n) (list_all (λ y. nat_lt y a.size) v) rest).1 in
    and_from (suc (length v) == suc n) (nat_lt x a.size && list_all (λ y. nat_lt y a.size) v) (grind (arith, nat_tests)) (and_from (nat_lt x a.size) (list_all (λ y. nat_lt y a.size) v) (is_below x a.size h.0) low)

pub no_vector_flaw : (a : FiniteAlgebra) (width : ℕ) (list : ListName) (vs : List Vector) → AllByRecursion (IsVector (power a width)) vs → vectors_flaw a.size width list vs ≡ None
no_vector_flaw a width list vs all =
    no_option (flaw.Vector list) (first_bad (λ i v. is_vector a.size width v) 0 vs)
    (none_bad (λ (i : ℕ) (v : Vector). is_vector a.size width v) 0 vs (λ i v at. is_power_vector a width v (All-slice_get (IsVector (power a width)) vs i v all at)))

pub right_width : (width : ℕ) → 0 < width → width ≤ WIDTH → is_outside width WIDTH ≡ false
right_width width some few = or_from (width == 0) (nat_lt WIDTH width) (grind (arith, nat_tests)) (grind (arith, nat_tests))

-- ---- steps

module _ (a : FiniteAlgebra) (table : IsAlgebraTable a) where
  -- the name of an operation
  record NameOf (f : ℕ) : Type 0 where
    there : slice_get (names_of a.operations) f ≡ Some (name_at a f)
    free : is_reserved (name_at a f) ≡ false

  name_of : (f : ℕ) → f < length (arities_of a) → NameOf f
  name_of f low =
      let ops = length-map a.operations (λ (o : Operation). o.arity) in
      let o = found a.operations f (omega (arith, low, ops)) in
      let there : slice_get (names_of a.operations) f ≡ Some (o.0.name) = mapped_at (λ (o : Operation). o.name) a.operations f o.0 o.1 in
      let is : name_at a f ≡ o.0.name = get_or_from_slice_get (names_of a.operations) f o.0.name [] there in
      record {
        there = there ∙ ap (λ n. Some n) (sym is);
        free = ap is_reserved is ∙ (All-slice_get IsTable a.operations f o.0 table.tables o.1).free;
      }

  not_gen : (word : List ℕ) → is_reserved word ≡ false → pointwise nat_eq word (codes "gen") ≡ false
  not_gen word e = (or_parts (pointwise nat_eq word (codes "gen")) (is_variable word) e).0

  -- a written origin is read as it was
  pub record IsWritten (gens n : ℕ) (o : Origin) : Type 0 where
    pub step : is_step a gens n (written_step a o) ≡ true
    pub origin : origin_of a (written_step a o) ≡ o
    pub rows : rows_named (written_step a o) ≡ arguments_of (arities_of a) o

  written_operation : (gens n f : ℕ) (args : List ℕ) → IsApplication (arities_of a) n f args → IsWritten gens n (Op f args)
  written_operation gens n f args h =
      let k : ℕ = slice_index (arities_of a) f in
      let xs : List ℕ = take k args in
      let name = name_of f h.operation in
      let gen : is_generator (written_step a (Op f args)) ≡ false = not_gen (name_at a f) name.free in
      let number : operation_number a (name_at a f) ≡ f = named_number a f (name_at a f) table.names name.there in
      let arity : arity_named a (written_step a (Op f args)) ≡ k = ap (slice_index (arities_of a)) number in
      let tail : replicate (4 - length xs) 0 ≡ drop k args = ap (λ m. replicate (4 - m) 0) h.count ∙ sym h.unused in
      let whole : xs ++ replicate (4 - length xs) 0 ≡ args = ap (λ zs. xs ++ zs) tail ∙ take-append-drop k args in
      record {
        step = ap (λ b. cond b ((length xs == 1) && list_all (λ x. nat_lt x gens) xs) (has_operation a (name_at a f) && ((length xs == arity_named a (written_step a (Op f args))) && list_all (λ x. nat_lt x n) xs))) gen
            ∙ and_from (has_operation a (name_at a f)) ((length xs == arity_named a (written_step a (Op f args))) && list_all (λ x. nat_lt x n) xs) (named_there a f (name_at a f) name.there)
            (and_from (length xs == arity_named a (written_step a (Op f args))) (list_all (λ x. nat_lt x n) xs) (is_equal (length xs) (arity_named a (written_step a (Op f args))) (h.count ∙ sym arity)) (are_below n xs h.earlier));
        origin = ap (λ b. cond b (Gen (slice_index xs 0)) (Op (operation_number a (name_at a f)) (xs ++ replicate (4 - length xs) 0))) gen
            ∙ ap (λ m. Op m (xs ++ replicate (4 - length xs) 0)) number ∙ ap (λ zs. Op f zs) whole;
        rows = ap (λ b. cond b [] xs) gen;
      }

  pub written : (gens n : ℕ) (o : Origin) → IsOrigin (arities_of a) gens n o → IsWritten gens n o
  written gens n (Gen i) h = record { step = ap (λ b. b && true) (is_below i gens h); origin = refl; rows = refl }
  written gens n (Op f args) h = written_operation gens n f args h

  steps_pass : (gens n : ℕ) (os : List Origin) → AreStepsFrom (arities_of a) gens n os → first_bad (is_step a gens) n (written_steps a os) ≡ None
  steps_pass gens n [] h = refl
  steps_pass gens n (o ∷ os) h =
      let z : n + 1 ≡ suc n = omega arith in
      ap (λ b. cond b (first_bad (is_step a gens) (suc n) (written_steps a os)) (Some n)) (written gens n o h.0).step
      ∙ steps_pass gens (suc n) os (subst (λ m. AreStepsFrom (arities_of a) gens m os) z h.1)

  pub steps_again : (gens n : ℕ) (os : List Origin) → AreStepsFrom (arities_of a) gens n os → origins_of a (written_steps a os) ≡ os
  steps_again gens n [] h = refl
  steps_again gens n (o ∷ os) h =
      let here = (written gens n o h.0).origin in
      let rest = steps_again gens (n + 1) os h.1 in
      λ i. here i ∷ rest i

  pub no_step_flaw : (gens : ℕ) (term : Option ℕ) (os : List Origin) → AreSteps (arities_of a) gens os → steps_flaw a gens term (written_steps a os) ≡ None
  no_step_flaw gens term os h = no_option (flaw.Step term) (first_bad (is_step a gens) 0 (written_steps a os)) (steps_pass gens 0 os h)

  -- ---- a vector that is generated

  pub flawless_member : (gens : List Vector) (os : List Origin) (target : Vector) (width : ℕ) → 0 < width → width ≤ WIDTH → AllByRecursion (IsVector (power a width)) gens → IsVector (power a width) target
      → AreSteps (arities_of a) (length gens) os → slice_get (step_values (power a width) gens os) (length os - 1) ≡ Some target → member_flaw a gens (written_steps a os) target width ≡ None
  flawless_member gens os target width some few vectors one steps value =
      let count : length (written_steps a os) ≡ length os = length-map os (written_step a) in
      let ks : arities (power a width) ≡ arities_of a = arities_of_power a width some in
      let last : last_term a (written_steps a os) ≡ step_term (arities_of a) os (length os - 1) = ap (λ zs. step_term (arities_of a) zs (length zs - 1)) (steps_again (length gens) 0 os steps) in
      let t = mapped_from (term_value (power a width) gens) (unfolded (arities (power a width)) os) (length os - 1) target value in
      let at : step_term (arities_of a) os (length os - 1) ≡ t.0 = ap (λ zs. step_term zs os (length os - 1)) (sym ks) ∙ get_or_from_slice_get (unfolded (arities (power a width)) os) (length os - 1) t.0 _ t.1 in
      let gives : term_value (power a width) gens (last_term a (written_steps a os)) ≡ target = ap (term_value (power a width) gens) (last ∙ at) ∙ t.2 in
      no_line (member_lines a gens (written_steps a os) target width) (
        refusal_if-false (is_outside width WIDTH || (length (written_steps a os) == 0)) flaw.Width (or_from (is_outside width WIDTH) (length (written_steps a os) == 0) (right_width width some few) (some_steps os count value)),
        (
          no_vector_flaw a width Gens gens vectors,
          (
            no_vector_flaw a width Target (target ∷ []) (one, tt),
            (
              no_step_flaw (length gens) None os steps,
              (
                refusal_if-false (not (gives_target a width gens (written_steps a os) target)) flaw.Target
                    (ap not (is_same_vector (term_value (power a width) gens (last_term a (written_steps a os))) target gives)),
                tt,
              ),
            ),
          ),
        ),
      )
    where
      some_steps : (os : List Origin) → length (written_steps a os) ≡ length os → slice_get (step_values (power a width) gens os) (length os - 1) ≡ Some target → (length (written_steps a os) == 0) ≡ false
      some_steps [] e h = cc
      some_steps (o ∷ os) e h = grind (arith, nat_tests)

-- ---- rows in order

below_next : (rows : List Vector) (i : ℕ) (u v : Vector) → IsIncreasing rows → slice_get rows i ≡ Some u → slice_get rows (suc i) ≡ Some v → slice_cmp nat_cmp u v ≡ Less
unfolding IsStrictlySortedBy
below_next [] i u v inc at next = cc
below_next (x ∷ xs) zero u v inc at next =
    let same : x ≡ u = cc in
    subst (λ z. slice_cmp nat_cmp z v ≡ Less) same (All-slice_get (λ y. slice_cmp nat_cmp x y ≡ Less) xs 0 v inc.0 next)
below_next (x ∷ xs) (suc i) u v inc at next = below_next xs i u v inc.1 at next

row_follows : (rows : List Vector) → IsIncreasing rows → (i : ℕ) (v : Vector) → slice_get rows i ≡ Some v → follows rows i v ≡ true
row_follows rows inc zero v at = refl
row_follows rows inc (suc i) v at =
    let u = before rows i v at in
    ap (λ w. is_lt (slice_cmp nat_cmp w v)) (get_or_from_slice_get rows i u.0 [] u.1) ∙ ap is_lt (below_next rows i u.0 v inc u.1 at)
  where
    before : (xs : List Vector) (j : ℕ) (w : Vector) → slice_get xs (suc j) ≡ Some w → (u : Vector) × (slice_get xs j ≡ Some u)
    before [] j w e = cc
    before (x ∷ xs) zero w e = (x, refl)
    before (x ∷ xs) (suc j) w e = before xs j w e

pub no_order_flaw : (rows : List Vector) → IsIncreasing rows → order_flaw rows ≡ None
no_order_flaw rows inc = no_option flaw.Order (first_bad (follows rows) 0 rows) (none_bad (follows rows) 0 rows (λ i v at. (let z : 0 + i ≡ i = omega arith in ap (λ k. follows rows k v) z ∙ row_follows rows inc i v at)))

-- ---- ranks

not_before : (xs : List ℕ) (i x : ℕ) → slice_get xs i ≡ Some x → times x xs ≤ 1 → list_any (λ y. y == x) (take i xs) ≡ false
not_before [] i x at once = cc
not_before (y ∷ ys) zero x at once = refl
not_before (y ∷ ys) (suc i) x at once =
    let there = times-Contains x ys (Contains-slice_get ys i x at) in
    let apart : y ≢ x = λ s. (let one = one_if-same x y s in omega (arith, one, there, once)) in
    let rest = not_before ys i x at (let most : one_if (y == x) + times x ys ≤ 1 = once in omega (arith, most)) in
    ap (λ b. b || list_any (λ z. z == x) (take i ys)) (differ apart) ∙ rest
  where
    differ : y ≢ x → (y == x) ≡ false
    differ ne = grind (arith, nat_tests, ne)

once_each : (n : ℕ) (ranks : List ℕ) → EachOnceBelow n ranks → (i x : ℕ) → slice_get ranks i ≡ Some x → is_rank n ranks i x ≡ true
once_each n ranks once i x at =
    let there = times-Contains x ranks (Contains-slice_get ranks i x at) in
    let count = once x in
    and_from (nat_lt x n) (not (list_any (λ y. y == x) (take i ranks))) (low (nat_lt x n) refl) (ap not (not_before ranks i x at (most (nat_lt x n) refl)))
  where
    low : (b : Bool) → nat_lt x n ≡ b → b ≡ true
    low true e = refl
    low false e = (let there = times-Contains x ranks (Contains-slice_get ranks i x at) in let c = once x ∙ ap one_if e in absurd (omega (arith, there, c)))

    most : (b : Bool) → nat_lt x n ≡ b → times x ranks ≤ 1
    most true e = let c = once x ∙ ap one_if e in omega (arith, c)
    most false e = let c = once x ∙ ap one_if e in omega (arith, c)

-- as many as rows
like : (m n : ℕ) → m ≡ n → unlike_lengths m n ≡ None
like m n e = ap (λ b. cond b None (Some (min m n))) (is_equal m n e)

enough : {X : Type 0} (good : ℕ → X → Bool) (n : ℕ) (xs : List X) → n ≡ length xs → ((i : ℕ) (x : X) → slice_get xs i ≡ Some x → good i x ≡ true) → first_or_short (first_bad good 0 (take n xs)) n (length xs) ≡ None
enough good n xs e h =
    let whole : take n xs ≡ xs = ap (λ m. take m xs) e ∙ take_all (length xs) xs (omega arith) in
    no_line (first_bad good 0 (take n xs) ∷ unlike_lengths n (length xs) ∷ []) (
      ap (first_bad good 0) whole ∙ none_bad good 0 xs (λ i x at. (let z : 0 + i ≡ i = omega arith in ap (λ k. good k x) z ∙ h i x at)),
      (like n (length xs) e, tt),
    )

pub no_rank_flaw : (rows : List Vector) (ranks : List ℕ) → length rows ≡ length ranks → EachOnceBelow (length rows) ranks → ranks_flaw rows ranks ≡ None
no_rank_flaw rows ranks count once =
    no_option flaw.Rank (first_or_short (first_bad (is_rank (length rows) ranks) 0 (take (length rows) ranks)) (length rows) (length ranks))
    (enough (is_rank (length rows) ranks) (length rows) ranks count (once_each (length rows) ranks once))

-- ---- rows that are exactly what is generated

pub no_generator_flaw : (a : FiniteAlgebra) (width : ℕ) (gens rows : List Vector) → AreExact a width gens rows → generators_flaw gens rows ≡ None
no_generator_flaw a width gens rows exact =
    no_option flaw.Generator (first_bad (λ i g. is_among rows g) 0 gens)
    (none_bad (λ (i : ℕ) (g : Vector). is_among rows g) 0 gens (λ i g at. is_there rows g (exact.all g (at_place i g at))))
  where
    at_place : (i : ℕ) (g : Vector) → slice_get gens i ≡ Some g → Sg (power a width) gens g
    at_place i g at = subst (Sg (power a width) gens) (get_or_from_slice_get gens i g [] at) (generator_in (power a width) gens i (slice_get_within gens i g at))

-- the rows at positions are generated
positions_generated : (a : FiniteAlgebra) (width : ℕ) (gens rows : List Vector) → AreExact a width gens rows → (tuple : List ℕ) → AllByRecursion (λ x. x < length rows) tuple → AllByRecursion (Sg (power a width) gens) (rows_at rows tuple)
positions_generated a width gens rows exact [] low = tt
positions_generated a width gens rows exact (x ∷ xs) low =
    let v = found rows x low.0 in
    (subst (Sg (power a width) gens) (sym (get_or_from_slice_get rows x v.0 [] v.1)) (exact.generated v.0 (Contains-slice_get rows x v.0 v.1)), positions_generated a width gens rows exact xs low.1)

result_there : (a : FiniteAlgebra) (width : ℕ) (gens rows : List Vector) → AreExact a width gens rows → (f : ℕ) (tuple : List ℕ)
    → f < length (arities (power a width)) → IsAssignment (length rows) (slice_index (arities (power a width)) f) tuple
    → is_missing (power a width) rows f tuple ≡ false
result_there a width gens rows exact f tuple low h =
    let args = positions_generated a width gens rows exact tuple h.elements in
    let long : length (rows_at rows tuple) ≡ slice_index (arities (power a width)) f = length-map tuple (λ x. slice_index_or rows x []) ∙ h.count in
    ap not (is_there rows (apply (power a width) f (rows_at rows tuple)) (exact.all (apply (power a width) f (rows_at rows tuple)) (result_in (power a width) gens f (rows_at rows tuple) low long args)))

none_of_each : {X E : Type 0} (f : X → Option E) (xs : List X) → ((x : X) → Contains xs x → f x ≡ None) → first_refusal (map f xs) ≡ None
none_of_each f [] h = refl
none_of_each f (x ∷ xs) h = skip (f x) (h x (Contains-head x xs)) ∙ none_of_each f xs (λ y c. h y (Contains-tail x y xs c))
  where
    skip : (o : Option _) → o ≡ None → first_refusal (o ∷ map f xs) ≡ first_refusal (map f xs)
    skip None e = refl
    skip (Some z) e = cc

pub no_result_flaw : (a : FiniteAlgebra) (width : ℕ) (gens rows : List Vector) → AreExact a width gens rows → results_flaw a width rows ≡ None
no_result_flaw a width gens rows exact =
    no_option (λ (r : ℕ × List ℕ). flaw.Missing (name_at a r.0) r.1) (missing (power a width) rows)
    (none_of_each (missing_of (power a width) rows) (range_with_len 0 (length (arities (power a width)))) (λ f c.
    no_option (λ (tuple : List ℕ). (f, tuple)) (find (is_missing (power a width) rows f) (assignments (length rows) (slice_index (arities (power a width)) f)))
    (none_found (is_missing (power a width) rows f) (assignments (length rows) (slice_index (arities (power a width)) f)) (λ tuple t.
    result_there a width gens rows exact f tuple (let r = range_low 0 (length (arities (power a width))) f c in let l = r.1 in omega (arith, l)) (assignment_from (length rows) (slice_index (arities (power a width)) f) tuple t)))))

pub no_closed_flaw : (a : FiniteAlgebra) (width : ℕ) (gens rows : List Vector) → IsIncreasing rows → AreExact a width gens rows → closed_flaw a width gens rows ≡ None
no_closed_flaw a width gens rows inc exact =
    no_line (order_flaw rows ∷ generators_flaw gens rows ∷ results_flaw a width rows ∷ []) (no_order_flaw rows inc, (no_generator_flaw a width gens rows exact, (no_result_flaw a width gens rows exact, tt)))

not_there : (rows : List Vector) (v : Vector) → (Contains rows v → ⊥) → is_among rows v ≡ false
not_there rows v h = cases (is_among rows v) refl
  where
    cases : (b : Bool) → is_among rows v ≡ b → b ≡ false
    cases false e = refl
    cases true e = absurd (h (among_is rows v e))

pub no_outside_flaw : (a : FiniteAlgebra) (width : ℕ) (gens rows : List Vector) (target : Vector) → IsIncreasing rows → AreExact a width gens rows
    → (Contains rows target → ⊥) → AllByRecursion (λ o. o ≡ None) (outside_lines a width gens rows target)
no_outside_flaw a width gens rows target inc exact absent =
    (no_closed_flaw a width gens rows inc exact, (refusal_if-false (is_among rows target) flaw.Target (not_there rows target absent), tt))

-- ---- a listing

pub flawless_not_member : (a : FiniteAlgebra) (gens : List Vector) (rows : List Row) (target : Vector) (width : ℕ) → IsPowerListing a width gens rows
    → IsVector (power a width) target → (Contains (vectors_of rows) target → ⊥) → not_member_flaw a gens (vectors_of rows) target width ≡ None
flawless_not_member a gens rows target width l one absent =
    no_line (not_member_lines a gens (vectors_of rows) target width) (
      refusal_if-false (is_outside width WIDTH) flaw.Width (right_width width l.wide.0 l.wide.1),
      (
        no_vector_flaw a width Gens gens l.admitted,
        (no_vector_flaw a width Rows (vectors_of rows) l.vectors, (no_vector_flaw a width Target (target ∷ []) (one, tt), no_outside_flaw a width gens (vectors_of rows) target l.listing.increasing l.exact absent)),
      ),
    )

module _ (a : FiniteAlgebra) (table : IsAlgebraTable a) (width : ℕ) (gens : List Vector) (rows : List Row) (l : IsPowerListing a width gens rows) where
  ranks_below : (n : ℕ) (xs : List ℕ) → AllByRecursion (λ x. slice_index (ranks_of rows) x < n) xs → list_all (λ x. nat_lt (slice_index (ranks_of rows) x) n) xs ≡ true
  ranks_below n [] h = refl
  ranks_below n (x ∷ xs) h = ap (λ b. b && list_all (λ y. nat_lt (slice_index (ranks_of rows) y) n) xs) (is_below (slice_index (ranks_of rows) x) n h.0) ∙ ranks_below n xs h.1

  origin_made : (i : ℕ) (o : CertStep) → slice_get (row_steps a rows) i ≡ Some o → is_made a width gens (vectors_of rows) (ranks_of rows) i o ≡ true
  origin_made i o at =
      let r = mapped_from (λ (w : Row). written_step a w.origin) rows i o at in
      let made = All-slice_get (IsMadeFrom (power a width) gens rows) rows i r.0 l.listing.origins r.1 in
      let ks : arities (power a width) ≡ arities_of a = arities_of_power a width l.wide.0 in
      let long : length rows ≡ length (vectors_of rows) = sym (length-map rows (λ (w : Row). w.vector)) in
      let origin : IsOrigin (arities_of a) (length gens) (length (vectors_of rows)) r.0.origin =
      subst (λ n. IsOrigin (arities_of a) (length gens) n r.0.origin) long
      (subst (λ zs. IsOrigin zs (length gens) (length rows) r.0.origin) ks made.origin) in
      let w = written a table (length gens) (length (vectors_of rows)) r.0.origin origin in
      let vector : slice_index_or (vectors_of rows) i [] ≡ r.0.vector = get_or_from_slice_get (vectors_of rows) i r.0.vector [] (mapped_at (λ (x : Row). x.vector) rows i r.0 r.1) in
      let rank : slice_index (ranks_of rows) i ≡ r.0.rank = get_or_from_slice_get (ranks_of rows) i r.0.rank 0 (mapped_at (λ (x : Row). x.rank) rows i r.0 r.1) in
      let earlier : AllByRecursion (λ x. slice_index (ranks_of rows) x < slice_index (ranks_of rows) i) (rows_named (written_step a r.0.origin))
      = subst (λ n. AllByRecursion (λ x. slice_index (ranks_of rows) x < n) (rows_named (written_step a r.0.origin))) (sym rank)
      (subst (AllByRecursion (λ x. slice_index (ranks_of rows) x < r.0.rank)) (sym (w.rows ∙ ap (λ zs. arguments_of zs r.0.origin) (sym ks))) made.earlier) in
      let value : origin_value (power a width) gens (vectors_of rows) (origin_of a (written_step a r.0.origin))
      ≡ slice_index_or (vectors_of rows) i [] =
      ap (origin_value (power a width) gens (vectors_of rows)) w.origin ∙ made.value ∙ sym vector in
      subst (λ s. is_made a width gens (vectors_of rows) (ranks_of rows) i s ≡ true) r.2
      (and_from (is_step a (length gens) (length (vectors_of rows)) (written_step a r.0.origin))
      (list_all (λ x. nat_lt (slice_index (ranks_of rows) x) (slice_index (ranks_of rows) i)) (rows_named (written_step a r.0.origin))
      && is_same (origin_value (power a width) gens (vectors_of rows) (origin_of a (written_step a r.0.origin)))
      (slice_index_or (vectors_of rows) i []))
      w.step
      (and_from (list_all (λ x. nat_lt (slice_index (ranks_of rows) x) (slice_index (ranks_of rows) i)) (rows_named (written_step a r.0.origin)))
      (is_same (origin_value (power a width) gens (vectors_of rows) (origin_of a (written_step a r.0.origin)))
      (slice_index_or (vectors_of rows) i []))
      (ranks_below (slice_index (ranks_of rows) i) (rows_named (written_step a r.0.origin)) earlier)
      (is_same_vector (origin_value (power a width) gens (vectors_of rows) (origin_of a (written_step a r.0.origin))) (slice_index_or (vectors_of rows) i []) value)))

  no_origin_flaw : origins_flaw a width gens (vectors_of rows) (ranks_of rows) (row_steps a rows) ≡ None
  no_origin_flaw =
      let count : length (vectors_of rows) ≡ length (row_steps a rows) = length-map rows (λ (w : Row). w.vector) ∙ sym (length-map rows (λ (w : Row). written_step a w.origin)) in
      no_option flaw.Origin (first_or_short (first_bad (is_made a width gens (vectors_of rows) (ranks_of rows)) 0 (take (length (vectors_of rows)) (row_steps a rows))) (length (vectors_of rows)) (length (row_steps a rows)))
      (enough (is_made a width gens (vectors_of rows) (ranks_of rows)) (length (vectors_of rows)) (row_steps a rows) count origin_made)

  pub flawless_listing : listing_flaw a gens (row_steps a rows) (ranks_of rows) (vectors_of rows) width ≡ None
  flawless_listing =
      let long : length rows ≡ length (vectors_of rows) = sym (length-map rows (λ (w : Row). w.vector)) in
      let count : length (vectors_of rows) ≡ length (ranks_of rows) = length-map rows (λ (w : Row). w.vector) ∙ sym (length-map rows (λ (w : Row). w.rank)) in
      let once : EachOnceBelow (length (vectors_of rows)) (ranks_of rows) = subst (λ n. EachOnceBelow n (ranks_of rows)) long l.listing.ranks in
      no_line (listing_lines a gens (row_steps a rows) (ranks_of rows) (vectors_of rows) width) (
        refusal_if-false (is_outside width WIDTH) flaw.Width (right_width width l.wide.0 l.wide.1),
        (
          no_vector_flaw a width Gens gens l.admitted,
          (
            no_vector_flaw a width Rows (vectors_of rows) l.vectors,
            (
              no_order_flaw (vectors_of rows) l.listing.increasing,
              (
                no_rank_flaw (vectors_of rows) (ranks_of rows) count once,
                (no_origin_flaw, (no_generator_flaw a width gens (vectors_of rows) l.exact, (no_result_flaw a width gens (vectors_of rows) l.exact, tt))),
              ),
            ),
          ),
        ),
      )
