-- What is written as a table is one, where it passes its checks.
use Rattle.std.proofs.Common.{◌≡◌, ℕ, suc, ◌+◌, ◌^◌, ◌<◌, ◌≤◌, not, nat_le, List, [], ◌∷◌, ◌++◌, length, map, take, get_or, refl, sym, ap, ◌∙◌, subst, arith}
use Rattle.std.specs.Prelude.{zip}
use Rattle.std.specs.List.{AllByRecursion}
use Rattle.std.proofs.Math.Nat.{one-le-pow}
use Rattle.std.proofs.Math.Seq.{take-suc}
use Rattle.std.proofs.lemmas.Bool.{leb-true}
use Rattle.std.proofs.lemmas.List.{length-map, length-take-le}
use Rattle.std.proofs.lemmas.List.Elements.{All-from_recursion}
use Rattle.ua_table.specs.declared.limits.TheConstants.{VARIABLES}
use Rattle.ua_table.specs.Algebras.{Vector}
use Rattle.ua_table.proofs.Lists.{all_from_contains, all_take}
use Rattle.ua_term.specs.Assignments.{IsAssignment, assignments}
use Rattle.ua_term.proofs.AssignmentLaws.{assignment_from}
use Rattle.ua_text.specs.Words.{among}
use Rattle.ua_text.specs.declared.named.Block.{Block}
use Rattle.ua_operands.specs.declared.written.Number.{Number}
use Rattle.ua_operands.specs.declared.written.Items.{Items}
use Rattle.ua_operands.specs.declared.written.PointsText.{PointsText}
use Rattle.ua_operands.specs.declared.written.PointsText.TheVariants.{Total, Partial}
use Rattle.ua_clone.specs.Points.{total_points, partial_points, IsPoint}
use Rattle.ua_clone.proofs.PointLaws.{length_total, length_partial}
use Rattle.ua_reply.specs.declared.checks.FirstErrors.{FirstErrors}
use Rattle.ua_reply.specs.Checks.{Checks, unless, shape_at, ◌and◌, Passes, AreFirst}
use Rattle.ua_reply.specs.Operands.{value_of, values_of, vectors_of, elements_in, length_in, vector_in, variables_checks}
use Rattle.ua_reply.proofs.CheckLaws.{parts_pass, and_passed, passed_and, and_assoc, known_step}
use Rattle.ua_reply.proofs.OperandLaws.{values_below, vector_length}
use Rattle.ua_answer_conditions.specs.CloneCommand.{arguments_of, point_in, points_in, written_points, table_checks, clone_checks}

-- ---- vectors in order

-- the arguments of those so far, the last first
abbrev pub seen : Block → ℕ → List (List ℕ) → List Items → List (List ℕ)
seen b k before [] = before
seen b k before (v ∷ vs) = seen b k (arguments_of b k v ∷ before) vs

points_more : (b : Block) (k : ℕ) (before : List (List ℕ)) (vs : List Items) (v : Items) → points_in b k before (vs ++ v ∷ []) ≡ (points_in b k before vs and point_in b k (seen b k before vs) v)
points_more b k before [] v = and_passed (point_in b k before v) ∙ sym (passed_and (point_in b k before v))
points_more b k before (u ∷ vs) v =
    let behind = arguments_of b k u ∷ before in
    ap (λ c. point_in b k before u and c) (points_more b k behind vs v) ∙ sym (and_assoc (point_in b k before u) (points_in b k behind vs) (point_in b k (seen b k behind vs) v))

seen_more : (b : Block) (k : ℕ) (before : List (List ℕ)) (vs : List Items) (v : Items) → seen b k before (vs ++ v ∷ []) ≡ arguments_of b k v ∷ seen b k before vs
seen_more b k before [] v = refl
seen_more b k before (u ∷ vs) v = seen_more b k (arguments_of b k u ∷ before) vs v

-- one more of a list
one_more : (xs : List Items) (i : ℕ) (x : Items) → i < length xs → x ≡ get_or xs i x → take (i + 1) xs ≡ take i xs ++ x ∷ []
one_more xs i x low is = let next : i + 1 ≡ suc i = omega arith in ap (λ n. take n xs) next ∙ take-suc xs i x low ∙ ap (λ y. take i xs ++ y ∷ []) (sym is)

pub next_points : (b : Block) (k : ℕ) (first v : Items) (vs : List Items) (i : ℕ) (e : FirstErrors) → i < length vs → v ≡ get_or vs i v
    → AreFirst (points_in b k [] (first ∷ take i vs) and point_in b k (seen b k [] (first ∷ take i vs)) v) e → AreFirst (points_in b k [] (first ∷ take (i + 1) vs)) e
next_points b k first v vs i e low is h =
    subst (λ (c : Checks). AreFirst c e) (sym (ap (λ xs. points_in b k [] (first ∷ xs)) (one_more vs i v low is) ∙ points_more b k [] (first ∷ take i vs) v)) h

pub next_seen : (b : Block) (k : ℕ) (first v : Items) (vs : List Items) (i : ℕ) → i < length vs → v ≡ get_or vs i v → seen b k [] (first ∷ take (i + 1) vs) ≡ arguments_of b k v ∷ seen b k [] (first ∷ take i vs)
next_seen b k first v vs i low is = ap (λ xs. seen b k [] (first ∷ xs)) (one_more vs i v low is) ∙ seen_more b k [] (first ∷ take i vs) v

-- each vector passes
pub vectors_pass : (b : Block) (k : ℕ) (before : List (List ℕ)) (vs : List Items) → Passes (points_in b k before vs) → AllByRecursion (λ v. Passes (vector_in b (k + 1) v)) vs
vectors_pass b k before [] h = tt
vectors_pass b k before (v ∷ vs) h =
    let p = parts_pass (point_in b k before v) (points_in b k (arguments_of b k v ∷ before) vs) h in
    let q = parts_pass (vector_in b (k + 1) v) (shape_at (unless (not (among (arguments_of b k v) before)) v.place)) p.0 in
    (q.0, vectors_pass b k (arguments_of b k v ∷ before) vs p.1)

-- so it has k arguments and a value, all of them elements
pub point_is : (b : Block) (k : ℕ) (v : Items) → Passes (vector_in b (k + 1) v) → (length (values_of b v) ≡ k + 1) × AllByRecursion (λ x. x < b.algebra.size) (values_of b v)
point_is b k v h =
    let p = parts_pass (elements_in b v.values) (length_in (k + 1) v) h in
    let n = length-map v.values (value_of b) in
    let m = vector_length b (k + 1) v h in
    (n ∙ m, values_below b v.values p.0)

pub points_are : (b : Block) (k : ℕ) (vs : List Items) → AllByRecursion (λ v. Passes (vector_in b (k + 1) v)) vs → AllByRecursion (λ (v : Vector). (length v ≡ k + 1) × AllByRecursion (λ x. x < b.algebra.size) v) (vectors_of b vs)
points_are b k [] h = tt
points_are b k (v ∷ vs) h = (point_is b k v h.0, points_are b k vs h.1)

-- ---- what passes

pub table_passes : (b : Block) (k : Number) (points : PointsText) → Passes (clone_checks b k points) → Passes (table_checks b k.value points)
table_passes b k points h = (parts_pass (variables_checks k) (table_checks b k.value points) h).1

pub few_variables : (b : Block) (k : Number) (points : PointsText) → Passes (clone_checks b k points) → k.value ≤ VARIABLES
few_variables b k points h = leb-true k.value VARIABLES (known_step (nat_le k.value VARIABLES) k.place (parts_pass (variables_checks k) (table_checks b k.value points) h).0.range)

-- the values of a total table
pub total_is : (b : Block) (n : ℕ) (v : Items) → Passes (vector_in b n v) → (length (values_of b v) ≡ n) × AllByRecursion (λ x. x < b.algebra.size) (values_of b v)
total_is b n v h = (length-map v.values (value_of b) ∙ vector_length b n v h, values_below b v.values (parts_pass (elements_in b v.values) (length_in n v) h).0)

-- ---- points

-- the points of a total table
total_points_are : (n k : ℕ) (values : List ℕ) → AllByRecursion (λ x. x < n) values → AllByRecursion (IsPoint n k) (total_points n k values)
total_points_are n k values below = each (assignments n k) values (all_from_contains (IsAssignment n k) (assignments n k) (assignment_from n k)) below
  where
    each : (xss : List (List ℕ)) (ys : List ℕ) → AllByRecursion (IsAssignment n k) xss → AllByRecursion (λ y. y < n) ys
        → AllByRecursion (IsPoint n k) (map (λ (p : List ℕ × ℕ). record { arguments = p.0; value = p.1 }) (zip xss ys))
    each [] ys h low = tt
    each (xs ∷ xss) [] h low = tt
    each (xs ∷ xss) (y ∷ ys) h low = (record { assignment = h.0; element = low.0 }, each xss ys h.1 low.1)

-- and those of a partial one
partial_points_are : (n k : ℕ) (vs : List Vector) → AllByRecursion (λ (v : Vector). (length v ≡ k + 1) × AllByRecursion (λ x. x < n) v) vs → AllByRecursion (IsPoint n k) (partial_points k vs)
partial_points_are n k [] h = tt
partial_points_are n k (v ∷ vs) h =
    let long = h.0.0 in
    let assignment : IsAssignment n k (take k v) = record { count = length-take-le k v (omega (arith, long)); elements = all_take (λ x. x < n) k v h.0.1 } in
    (record { assignment = assignment; element = All-from_recursion (λ x. x < n) v h.0.1 k 0 (omega (arith, long)) }, partial_points_are n k vs h.1)

-- what passes is a table of points, and not empty
pub points_written : (b : Block) (k : Number) (points : PointsText) → 0 < b.algebra.size → Passes (clone_checks b k points)
    → (0 < length (written_points b k.value points)) × AllByRecursion (IsPoint b.algebra.size k.value) (written_points b k.value points)
points_written b k (Total v) some h =
    let values = total_is b (b.algebra.size ^ k.value) v (table_passes b k (Total v) h) in
    let long = length_total b.algebra.size k.value (values_of b v) values.0 in
    let count = values.0 in
    let low : 0 < b.algebra.size ^ k.value = one-le-pow k.value b.algebra.size some in
    (omega (arith, long, count, low), total_points_are b.algebra.size k.value (values_of b v) values.1)
points_written b k (Partial v vs) some h =
    let long = length_partial k.value (vectors_of b (v ∷ vs)) in
    let count = length-map (v ∷ vs) (values_of b) in
    let pass = vectors_pass b k.value [] (v ∷ vs) (table_passes b k (Partial v vs) h) in
    (omega (arith, long, count), partial_points_are b.algebra.size k.value (vectors_of b (v ∷ vs)) (points_are b k.value (v ∷ vs) pass))
