-- Marked pairs generate the target, and so do the pairs that a translation takes to them.
use Rattle.std.proofs.Common.{◌≡◌, ℕ, zero, suc, ◌+◌, ◌*◌, ◌/◌, ◌%◌, ◌^◌, ◌<◌, ◌≤◌, Bool, true, false, List, [], ◌∷◌, ◌++◌, length, map, set, replicate, refl, sym, ap, ◌∙◌, subst, arith, Some, ⊎_elim, length-append}
use Rattle.std.specs.Prelude.{slice_index, slice_index_or, slice_get}
use Rattle.std.specs.List.{AllByRecursion, range_with_len}
use Rattle.std.proofs.Math.Nat.{mul-le-mul}
use Rattle.std.proofs.lemmas.Bool.{cases_eq}
use Rattle.std.proofs.lemmas.Nat.{div-mul-add, mod-mul-add}
use Rattle.std.proofs.lemmas.List.{length-map, get_or-set_other}
use Rattle.std.proofs.lemmas.List.Elements.{Contains-append_left}
use Rattle.ua_table.specs.Algebras.{Vector, FiniteAlgebra, Operation, IsAlgebra, arities_of, column, value_at}
use Rattle.ua_table.specs.Tables.{IsTable}
use Rattle.ua_table.specs.Generated.{Sg}
use Rattle.ua_table.proofs.Lists.{Contains-map, all_append, all_map, all_weaker}
use Rattle.ua_table.proofs.Choices.{in_range}
use Rattle.ua_table.proofs.GeneratedLaws.{result_in}
use Rattle.ua_prod.specs.Constructions.{pair_number, first_of, second_of}
use Rattle.ua_prod.specs.Translations.{weight_of, row_at}
use Rattle.ua_prod.proofs.ClashLaws.{arity_is}
use Rattle.ua_prod.proofs.ProductLaws.{pair_below}
use Rattle.ua_prod.proofs.RowValues.{around}
use Rattle.ua_type.specs.declared.marks.Marks.{Marks}
use Rattle.ua_type.specs.Subtraces.{constants, pair_generators, Generates}
use Rattle.ua_type.specs.inner.Marks.{is_marked, AreMarks, ReachesMark}
use Rattle.ua_type.proofs.GeneratedPairs.{member_in, generates_itself, generates_through}

-- ---- marks

module _ (b : FiniteAlgebra) (target : ℕ × ℕ) where
  pub marked_generates : (marks : Marks) → AreMarks b target marks → (x y : ℕ) → y < b.size → is_marked marks (x, y) ≡ true → Generates b x y target.0 target.1
  marked_generates marks h x y below e =
      let n : pair_number marks.size x y ≡ x * b.size + y = ap (λ m. x * m + y) h.size in
      subst (λ u. Generates b u y target.0 target.1) (ap (λ m. m / b.size) n ∙ div-mul-add x b.size y below)
      (subst (λ u. Generates b (first_of b.size (pair_number marks.size x y)) u target.0 target.1) (ap (λ m. m % b.size) n ∙ mod-mul-add x b.size y below) (h.generate (pair_number marks.size x y) e))

  pub reached_generates : (marks : Marks) (pair : ℕ × ℕ) → AreMarks b target marks → ReachesMark b marks pair → Generates b pair.0 pair.1 target.0 target.1
  reached_generates marks pair h r = generates_through b pair.0 pair.1 r.first r.second target.0 target.1 r.generated (marked_generates marks h r.first r.second r.below r.marked)

  -- one mark more
  pub marks_more : (old new : Marks) (pair : ℕ × ℕ) → pair.1 < b.size → new.size ≡ old.size
      → new.marked.items ≡ set old.marked.items (pair_number old.size pair.0 pair.1) true → AreMarks b target old
      → Generates b pair.0 pair.1 target.0 target.1 → AreMarks b target new
  marks_more old new pair below size is h g = record { size = size ∙ h.size; generate = each }
    where
      number : ℕ
      number = pair_number old.size pair.0 pair.1

      at : number ≡ pair.0 * b.size + pair.1
      at = ap (λ m. pair.0 * m + pair.1) h.size

      each : (k : ℕ) → slice_index_or new.marked.items k false ≡ true → Generates b (first_of b.size k) (second_of b.size k) target.0 target.1
      each k e = ⊎_elim
          (λ same.
          let first : first_of b.size k ≡ pair.0 = ap (λ m. m / b.size) (same ∙ at) ∙ div-mul-add pair.0 b.size pair.1 below in
          let second : second_of b.size k ≡ pair.1 = ap (λ m. m % b.size) (same ∙ at) ∙ mod-mul-add pair.0 b.size pair.1 below in
          subst (λ u. Generates b u (second_of b.size k) target.0 target.1) (sym first) (subst (λ u. Generates b pair.0 u target.0 target.1) (sym second) g))
          (λ other. h.generate k (sym (get_or-set_other old.marked.items number k true false other) ∙ ap (λ (ms : List Bool). slice_index_or ms k false) (sym is) ∙ e))
          (cases_eq k number)

none_marked : (n k : ℕ) → slice_index_or (replicate n false) k false ≡ false
none_marked zero k = refl
none_marked (suc n) zero = refl
none_marked (suc n) (suc k) = none_marked n k

true_false : true ≡ false → ⊥
true_false e = cc

-- where none is marked
pub no_marks : (b : FiniteAlgebra) (target : ℕ × ℕ) (marks : Marks) (n : ℕ) → marks.size ≡ b.size → marks.marked.items ≡ replicate n false → AreMarks b target marks
no_marks b target marks n size none = record {
  size = size;
  generate = λ k e. absurd (true_false (sym e ∙ ap (λ (ms : List Bool). slice_index_or ms k false) none ∙ none_marked n k));
}

-- a pair alone
pub first_mark : (b : FiniteAlgebra) (pair : ℕ × ℕ) (old new : Marks) (n : ℕ) → pair.1 < b.size → old.size ≡ b.size
    → old.marked.items ≡ replicate n false → new.size ≡ old.size → new.marked.items ≡ set old.marked.items (pair_number old.size pair.0 pair.1) true
    → AreMarks b pair new
first_mark b pair old new n below size none same is = marks_more b pair old new pair below same is (no_marks b pair old n size none) (generates_itself b pair.0 pair.1)

-- the number of a pair of elements is below that of all pairs
pub number_within : (n x y : ℕ) → x < n → y < n → x * n + y < n * n
number_within n x y u v = pair_below n n x y u v

pub square_small : (n : ℕ) → n < 2 ^ 16 → n * n < 2 ^ 32
square_small n w =
    let low : n ≤ 65535 = omega (arith, w) in
    let p : n * n ≤ 65535 * 65535 = mul-le-mul low low in
    let e : 65535 * 65535 < 2 ^ 32 = omega arith in
    omega (arith, p, e)

-- ---- translations

-- the constant vector of two
abbrev twice : ℕ → Vector
twice c = c ∷ c ∷ []

module _ (b : FiniteAlgebra) (x y : ℕ) where
  constant_in : (c : ℕ) → c < b.size → Sg (replicate 2 b) (pair_generators b x y) (twice c)
  constant_in c w = member_in (replicate 2 b) (pair_generators b x y) (twice c)
      (Contains-append_left (constants 2 b) ((x ∷ y ∷ []) ∷ []) (twice c) (Contains-map (λ (e : ℕ). replicate 2 e) c (range_with_len 0 b.size) (in_range 0 b.size c (omega arith) (omega (arith, w)))))

  constants_in : (cs : List ℕ) → AllByRecursion (λ e. e < b.size) cs → AllByRecursion (Sg (replicate 2 b) (pair_generators b x y)) (map twice cs)
  constants_in cs all = all_map (Sg (replicate 2 b) (pair_generators b x y)) twice cs (all_weaker (λ e. e < b.size) (λ c. Sg (replicate 2 b) (pair_generators b x y) (twice c)) constant_in cs all)

  -- the pair among constants
  abbrev amid : List ℕ → List ℕ → List Vector
  amid ps ss = map twice ps ++ (x ∷ y ∷ []) ∷ map twice ss

  low_constants : (cs : List ℕ) → column (map twice cs) 0 ≡ cs
  low_constants [] = refl
  low_constants (c ∷ cs) = ap (λ (us : List ℕ). c ∷ us) (low_constants cs)

  high_constants : (cs : List ℕ) → column (map twice cs) 1 ≡ cs
  high_constants [] = refl
  high_constants (c ∷ cs) = ap (λ (us : List ℕ). c ∷ us) (high_constants cs)

  low_column : (ps ss : List ℕ) → column (amid ps ss) 0 ≡ ps ++ x ∷ ss
  low_column [] ss = ap (λ (us : List ℕ). x ∷ us) (low_constants ss)
  low_column (p ∷ ps) ss = ap (λ (us : List ℕ). p ∷ us) (low_column ps ss)

  high_column : (ps ss : List ℕ) → column (amid ps ss) 1 ≡ ps ++ y ∷ ss
  high_column [] ss = ap (λ (us : List ℕ). y ∷ us) (high_constants ss)
  high_column (p ∷ ps) ss = ap (λ (us : List ℕ). p ∷ us) (high_column ps ss)

  -- a translation of the pair is generated
  pub translated : (f : ℕ) (o : Operation) (place front back : ℕ) → IsAlgebra b → IsTable o → slice_get b.operations f ≡ Some o → f < length (arities_of b) → place < o.arity → front < o.size ^ place → back < weight_of o place
      → Generates b x y (slice_index (row_at o place front x) back) (slice_index (row_at o place front y) back)
  translated f o place front back alg t stands w placed front_in back_in =
      let s = around b f o alg t stands place front back placed front_in back_in in
      let gens = pair_generators b x y in
      let args = amid s.before s.behind in
      let c0 = length-append (map twice s.before) ((x ∷ y ∷ []) ∷ map twice s.behind) in
      let c1 = length-map s.before twice in
      let c2 = length-map s.behind twice in
      let c3 = s.before_count in
      let c4 = s.behind_count in
      let arity = arity_is b f o stands in
      let all = all_append (Sg (replicate 2 b) gens) (map twice s.before) ((x ∷ y ∷ []) ∷ map twice s.behind) (constants_in s.before s.before_below) (generates_itself b x y, constants_in s.behind s.behind_below) in
      let made = result_in (replicate 2 b) gens f args w (omega (arith, c0, c1, c2, c3, c4, placed, arity)) all in
      subst (Sg (replicate 2 b) gens)
      (λ i. (ap (λ (us : List ℕ). value_at b f us) (low_column s.before s.behind) ∙ sym (s.value x)) i ∷ (ap (λ (us : List ℕ). value_at b f us) (high_column s.before s.behind) ∙ sym (s.value y)) i ∷ [])
      made
