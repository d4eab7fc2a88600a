-- Lists of points, and the vectors of what they give.
use Rattle.std.proofs.Common.{◌≡◌, ℕ, ◌+◌, ◌^◌, ◌<◌, ◌≤◌, List, [], ◌∷◌, ◌++◌, length, map, take, get_or, refl, sym, ap, ◌∙◌, subst, arith}
use Rattle.std.specs.Prelude.{zip, slice_index}
use Rattle.std.specs.List.{AllByRecursion}
use Rattle.std.proofs.Math.Nat.{one-le-pow}
use Rattle.std.proofs.lemmas.List.{length-map, map-append, length-take-le, get_or-take, take_more}
use Rattle.std.proofs.lemmas.List.Elements.{All-from_recursion}
use Rattle.std.proofs.lemmas.Simd.{map-map}
use Rattle.std.proofs.lemmas.Slice.Zip.{length-zip, firsts-zip, seconds-zip}
use Rattle.ua_table.specs.Algebras.{Vector, column}
use Rattle.ua_table.proofs.Lists.{all_map, all_from_contains, all_take}
use Rattle.ua_term.specs.Assignments.{IsAssignment, assignments, projection}
use Rattle.ua_term.proofs.AssignmentLaws.{length_assignments, assignment_from}
use Rattle.ua_clone.specs.declared.points.Points.{Points}
use Rattle.ua_clone.specs.declared.points.Points.TheVariants.{Total, Partial}
use Rattle.ua_clone.specs.Points.{Point, total_points, partial_points, points_of, IsPoint, AreAllPoints, ArePoints}
use Rattle.ua_clone.specs.Frames.{variable_vector, wanted_values}

-- ---- total tables

abbrev pair_point : List ℕ × ℕ → Point
pair_point p = record { arguments = p.0; value = p.1 }

all_zip : {X Y : Type 0} (P : X → Type 0) (Q : Y → Type 0) (xs : List X) (ys : List Y) → AllByRecursion P xs → AllByRecursion Q ys → AllByRecursion (λ (p : X × Y). P p.0 × Q p.1) (zip xs ys)
all_zip P Q [] ys h k = tt
all_zip P Q (x ∷ xs) [] h k = tt
all_zip P Q (x ∷ xs) (y ∷ ys) h k = ((h.0, k.0), all_zip P Q xs ys h.1 k.1)

module _ (n k : ℕ) (values : List ℕ) (long : length values ≡ n ^ k) where
  same_length : length values ≡ length (assignments n k)
  same_length = long ∙ sym (length_assignments n k)

  pub length_total : length (total_points n k values) ≡ length values
  length_total =
      let mapped = length-map (zip (assignments n k) values) pair_point in
      let zipped = length-zip (assignments n k) values in
      let same = same_length in
      omega (arith, mapped, zipped, same)

  pub variable_total : (i : ℕ) → variable_vector (total_points n k values) i ≡ projection n k i
  variable_total i =
      map-map (λ (p : Point). slice_index p.arguments i) pair_point (zip (assignments n k) values)
      ∙ sym (map-map (λ (xs : List ℕ). slice_index xs i) (λ (p : List ℕ × ℕ). p.0) (zip (assignments n k) values))
      ∙ ap (map (λ (xs : List ℕ). slice_index xs i)) (firsts-zip (assignments n k) values same_length)

  pub wanted_total : wanted_values (total_points n k values) ≡ values
  wanted_total = map-map (λ (p : Point). p.value) pair_point (zip (assignments n k) values) ∙ seconds-zip (assignments n k) values same_length

  points_total : AllByRecursion (λ x. x < n) values → AreAllPoints n k (total_points n k values)
  points_total h =
      all_map (IsPoint n k) pair_point (zip (assignments n k) values)
      (weaker (zip (assignments n k) values) (all_zip (IsAssignment n k) (λ x. x < n) (assignments n k) values (all_from_contains (IsAssignment n k) (assignments n k) (assignment_from n k)) h))
    where
      weaker : (ps : List (List ℕ × ℕ)) → AllByRecursion (λ (p : List ℕ × ℕ). IsAssignment n k p.0 × (p.1 < n)) ps → AllByRecursion (λ (p : List ℕ × ℕ). IsPoint n k (pair_point p)) ps
      weaker [] h = tt
      weaker (p ∷ ps) h = (record { assignment = h.0.0; element = h.0.1 }, weaker ps h.1)

-- ---- partial tables

-- so many entries, all below n
abbrev AreEntries : ℕ → ℕ → List Vector → Type 0
AreEntries n k vs = AllByRecursion (λ (v : Vector). (length v ≡ k + 1) × AllByRecursion (λ x. x < n) v) vs

pub variable_partial : (k i : ℕ) (vs : List Vector) → i < k → variable_vector (partial_points k vs) i ≡ column vs i
variable_partial k i [] l = refl
variable_partial k i (v ∷ vs) l = (λ j. get_or-take k v i 0 l j ∷ variable_partial k i vs l j)

pub wanted_partial : (k : ℕ) (vs : List Vector) → wanted_values (partial_points k vs) ≡ column vs k
wanted_partial k [] = refl
wanted_partial k (v ∷ vs) = ap (λ rest. slice_index v k ∷ rest) (wanted_partial k vs)

points_partial : (n k : ℕ) (vs : List Vector) → AreEntries n k vs → AreAllPoints n k (partial_points k vs)
points_partial n k [] h = tt
points_partial n k (v ∷ vs) h =
    let long = h.0.0 in (
      record {
        assignment = record { count = length-take-le k v (omega (arith, long)); elements = all_take (λ x. x < n) k v h.0.1 };
        element = All-from_recursion (λ x. x < n) v h.0.1 k 0 (omega (arith, long));
      },
      points_partial n k vs h.1,
    )

-- each vector has an entry at a place before the last one or at it
pub entries_there : (n k i : ℕ) (vs : List Vector) → i ≤ k → AreEntries n k vs → AllByRecursion (λ (v : Vector). i < length v) vs
entries_there n k i [] l h = tt
entries_there n k i (v ∷ vs) l h = (let long = h.0.0 in omega (arith, long, l), entries_there n k i vs l h.1)

-- ---- tables

pub are_points : (n k : ℕ) (points : Points) → ArePoints n k points → AreAllPoints n k (points_of n k points)
are_points n k (Total values) h = points_total n k values.items h.0 h.1
are_points n k (Partial vectors) h = points_partial n k vectors.items h.1

pub length_partial : (k : ℕ) (vs : List Vector) → length (partial_points k vs) ≡ length vs
length_partial k vs = length-map vs (λ (v : Vector). record { arguments = take k v; value = slice_index v k })

pub some_points : (n k : ℕ) (points : Points) → 0 < n → ArePoints n k points → 0 < length (points_of n k points)
some_points n k (Total values) some h =
    let long = length_total n k values.items h.0 in
    let count = h.0 in
    let low : 0 < n ^ k = one-le-pow k n some in
    omega (arith, long, count, low)
some_points n k (Partial vectors) some h =
    let long = length_partial k vectors.items in
    let low = h.0 in
    omega (arith, long, low)

-- ---- a table that is known to be total, or partial

module _ (n k : ℕ) (points : Points) (h : ArePoints n k points) where
  module _ (values : _) (e : points ≡ Total values) where
    pub values_long : length values.items ≡ n ^ k
    values_long = (subst (ArePoints n k) e h).0

    pub count_total : length (points_of n k points) ≡ length values.items
    count_total = ap (λ (p : Points). length (points_of n k p)) e ∙ length_total n k values.items values_long

    pub total_variable : (i : ℕ) → variable_vector (points_of n k points) i ≡ projection n k i
    total_variable i = ap (λ (p : Points). variable_vector (points_of n k p) i) e ∙ variable_total n k values.items values_long i

    pub total_wanted : wanted_values (points_of n k points) ≡ values.items
    total_wanted = ap (λ (p : Points). wanted_values (points_of n k p)) e ∙ wanted_total n k values.items values_long

  module _ (vectors : _) (e : points ≡ Partial vectors) where
    pub are_entries : AreEntries n k vectors.items
    are_entries = (subst (ArePoints n k) e h).1

    pub partial_variable : (i : ℕ) → i < k → variable_vector (points_of n k points) i ≡ column vectors.items i
    partial_variable i low = ap (λ (p : Points). variable_vector (points_of n k p) i) e ∙ variable_partial k i vectors.items low

    pub partial_wanted : wanted_values (points_of n k points) ≡ column vectors.items k
    partial_wanted = ap (λ (p : Points). wanted_values (points_of n k p)) e ∙ wanted_partial k vectors.items

-- ---- vectors as partial tables

pub column_more : (vs : List Vector) (i place : ℕ) → i < length vs → column (take (i + 1) vs) place ≡ column (take i vs) place ++ slice_index (get_or vs i []) place ∷ []
column_more vs i place l = ap (λ (us : List Vector). column us place) (take_more vs i [] l) ∙ map-append (λ (v : Vector). slice_index v place) (take i vs) (get_or vs i [] ∷ [])

-- vectors of a width fit exactly where it is one more than the variables, and all entries are below
abbrev AreWide : ℕ → List Vector → Type 0
AreWide width vs = AllByRecursion (λ (v : Vector). length v ≡ width) vs

abbrev AreBelow : ℕ → List Vector → Type 0
AreBelow n vs = AllByRecursion (λ (v : Vector). AllByRecursion (λ x. x < n) v) vs

pub entries_from : (n k width : ℕ) (vs : List Vector) → width ≡ k + 1 → AreWide width vs → AreBelow n vs → AreEntries n k vs
entries_from n k width [] e wide below = tt
entries_from n k width (v ∷ vs) e wide below = ((wide.0 ∙ e, below.0), entries_from n k width vs e wide.1 below.1)

pub entries_below : (n k : ℕ) (vs : List Vector) → AreEntries n k vs → AreBelow n vs
entries_below n k [] h = tt
entries_below n k (v ∷ vs) h = (h.0.1, entries_below n k vs h.1)

pub width_is : (n k width : ℕ) (vs : List Vector) → AreWide width vs → 0 < length vs → AreEntries n k vs → width ≡ k + 1
width_is n k width [] wide some h = absurd (omega (arith, some))
width_is n k width (v ∷ vs) wide some h = sym wide.0 ∙ h.0.0
