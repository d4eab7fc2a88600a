-- Assignments by their numbers, and the values of terms at all of them.
use Rattle.std.proofs.Common.{◌≡◌, ℕ, zero, suc, ◌+◌, ◌-◌, ◌*◌, ◌^◌, ◌<◌, ◌≤◌, List, [], ◌∷◌, length, map, get_or, replicate, refl, sym, ap, ◌∙◌, arith, Some}
use Rattle.std.specs.Prelude.{Contains, slice_get, slice_index}
use Rattle.std.specs.List.{AllByRecursion, range_with_len}
use Rattle.std.proofs.lemmas.List.{ext_get_or, get_or-map, get_or_default, length-map, length-replicate}
use Rattle.std.proofs.lemmas.List.FromFn.{length-map-range_with_len, get_or-map-range_with_len}
use Rattle.std.proofs.lemmas.Option.{slice_get-get_or}
use Rattle.std.proofs.lemmas.Simd.{map-map}
use Rattle.std.proofs.Math.Nat.{pow-suc, pow-zero, pow-le-pow_left, pow-le-pow_right}
use Rattle.ua_table.specs.declared.limits.TheConstants.{SIZE}
use Rattle.ua_table.specs.Algebras.{Vector, FiniteAlgebra, arities_of, numeral, column}
use Rattle.ua_table.specs.declared.spans.Span.{Span}
use Rattle.ua_table.specs.Numbering.{choices}
use Rattle.ua_table.specs.Spans.{ranges, tuples}
use Rattle.ua_table.specs.Terms.{Tree, Generator, Application, IsTerm, term_value, term_values, eval}
use Rattle.ua_table.proofs.ApplyLaws.{length-apply, numeral-below}
use Rattle.ua_table.proofs.Choices.{IsChoice, chosen, choice_from, in_range, range_low}
use Rattle.ua_table.proofs.Codes.{numeral-cons}
use Rattle.ua_table.proofs.Lists.{slice_get-replicate, Contains-head, Contains-tail}
use Rattle.ua_table.proofs.SpanLaws.{IsInSpans, many, rank, length_tuples, rank_at}
use Rattle.ua_table.proofs.TermLaws.{value_is_eval}
use Rattle.ua_term.specs.Assignments.{IsAssignment, assignments, projection, projections, power_of_assignments, term_operation}

-- ---- which assignments there are

chosen_from : (n k : ℕ) (xs : List ℕ) → length xs ≡ k → AllByRecursion (λ x. x < n) xs → IsChoice (replicate k (range_with_len 0 n)) xs
chosen_from n zero [] e h = tt
chosen_from n zero (x ∷ xs) e h = absurd (omega (arith, e))
chosen_from n (suc k) [] e h = absurd (omega (arith, e))
chosen_from n (suc k) (x ∷ xs) e h = (in_range 0 n x (omega arith) (omega (arith, h.0)), chosen_from n k xs (omega (arith, e)) h.1)

chosen_is : (n k : ℕ) (xs : List ℕ) → IsChoice (replicate k (range_with_len 0 n)) xs → (length xs ≡ k) × AllByRecursion (λ x. x < n) xs
chosen_is n zero [] h = (refl, tt)
chosen_is n zero (x ∷ xs) h = absurd h
chosen_is n (suc k) [] h = absurd h
chosen_is n (suc k) (x ∷ xs) h = let r = chosen_is n k xs h.1 in let l = range_low 0 n x h.0 in (ap suc r.0, (omega (arith, l.1), r.1))

pub assignment_in : (n k : ℕ) (xs : List ℕ) → IsAssignment n k xs → Contains (assignments n k) xs
assignment_in n k xs h = chosen (replicate k (range_with_len 0 n)) xs (chosen_from n k xs h.count h.elements)

pub assignment_from : (n k : ℕ) (xs : List ℕ) → Contains (assignments n k) xs → IsAssignment n k xs
assignment_from n k xs c = let r = chosen_is n k xs (choice_from (replicate k (range_with_len 0 n)) xs c) in record { count = r.0; elements = r.1 }

-- ---- at which number each stands

-- the elements, at each of so many places
abbrev pub elements : ℕ → ℕ → List Span
elements n k = replicate k (record { low = 0; count = n })

tuples_are : (n k : ℕ) → tuples (elements n k) ≡ assignments n k
tuples_are n k = ap choices (ranges_are k)
  where
    ranges_are : (k : ℕ) → ranges (elements n k) ≡ replicate k (range_with_len 0 n)
    ranges_are zero = refl
    ranges_are (suc k) = ap (λ (rest : List (List ℕ)). range_with_len 0 n ∷ rest) (ranges_are k)

pub many_is : (n k : ℕ) → many (elements n k) ≡ n ^ k
many_is n zero = sym (pow-zero n)
many_is n (suc k) = ap (λ m. n * m) (many_is n k) ∙ (let p = pow-suc n k in let e : n * n ^ k ≡ n ^ suc k = omega (arith, p) in e)

pub rank_is : (n : ℕ) (xs : List ℕ) → rank (elements n (length xs)) xs ≡ numeral n xs
rank_is n [] = refl
rank_is n (x ∷ xs) =
    let whole : x - 0 ≡ x = omega arith in
    (λ i. whole i * many_is n (length xs) i + rank_is n xs i) ∙ sym (numeral-cons n x xs)

pub within_from : (n : ℕ) (xs : List ℕ) → AllByRecursion (λ x. x < n) xs → IsInSpans (elements n (length xs)) xs
within_from n [] h = tt
within_from n (x ∷ xs) h = (omega arith, omega (arith, h.0), within_from n xs h.1)

pub length_assignments : (n k : ℕ) → length (assignments n k) ≡ n ^ k
length_assignments n k = ap length (sym (tuples_are n k)) ∙ length_tuples (elements n k) ∙ many_is n k

-- so many elements and variables have no more than the most
pub few_assignments : (n k most : ℕ) → n ≤ SIZE → k ≤ most → n ^ k ≤ SIZE ^ most
few_assignments n k most small few =
    let some : 0 < SIZE = omega arith in
    let up : SIZE ^ k ≤ SIZE ^ most = pow-le-pow_right some few in
    omega (arith, pow-le-pow_left small k, up)

pub assignment_below : (n k : ℕ) (xs : List ℕ) → IsAssignment n k xs → numeral n xs < n ^ k
assignment_below n k xs h = let l = numeral-below n xs h.elements in let e : n ^ length xs ≡ n ^ k = ap (λ m. n ^ m) h.count in omega (arith, l, e)

pub assignment_stands : (n k : ℕ) (xs : List ℕ) → IsAssignment n k xs → get_or (assignments n k) (numeral n xs) [] ≡ xs
assignment_stands n k xs h =
    (λ i. get_or (assignments n (sym h.count i)) (sym (rank_is n xs) i) [])
    ∙ ap (λ (ts : List (List ℕ)). get_or ts (rank (elements n (length xs)) xs) []) (sym (tuples_are n (length xs)))
    ∙ rank_at (elements n (length xs)) xs (within_from n xs h.elements)

pub assignment_at : (n k : ℕ) (xs : List ℕ) → IsAssignment n k xs → slice_get (assignments n k) (numeral n xs) ≡ Some xs
assignment_at n k xs h =
    let low = assignment_below n k xs h in
    let long = length_assignments n k in
    slice_get-get_or (assignments n k) (numeral n xs) [] (omega (arith, low, long)) ∙ ap Some (assignment_stands n k xs h)

-- ---- the value of a term at all of them

-- what an assignment gives to the variables, in order, is the assignment
pub read_all : (xs : List ℕ) (k : ℕ) → length xs ≡ k → map (slice_index xs) (range_with_len 0 k) ≡ xs
read_all xs k long =
    let count = length-map-range_with_len (slice_index xs) 0 k in
    ext_get_or 0 (map (slice_index xs) (range_with_len 0 k)) xs (count ∙ sym long) (λ i l. get_or-map-range_with_len (slice_index xs) 0 k i i 0 (omega (arith, l, count)) (omega arith))

-- two maps of a list are equal where they are at each element
pub maps_agree : {X Y : Type 0} (f g : X → Y) (xs : List X) → ((x : X) → Contains xs x → f x ≡ g x) → map f xs ≡ map g xs
maps_agree f g [] h = refl
maps_agree f g (x ∷ xs) h = (λ i. h x (Contains-head x xs) i ∷ maps_agree f g xs (λ y c. h y (Contains-tail x y xs c)) i)

-- the entries of the projections at a coordinate are the assignment that stands there
column_is : (n k i : ℕ) → i < length (assignments n k) → length (get_or (assignments n k) i []) ≡ k → column (projections n k) i ≡ get_or (assignments n k) i []
column_is n k i l long =
    map-map (λ (v : Vector). slice_index v i) (projection n k) (range_with_len 0 k)
    ∙ maps_agree (λ j. slice_index (projection n k j) i) (slice_index (get_or (assignments n k) i [])) (range_with_len 0 k) (λ j c. get_or-map (λ (xs : List ℕ). slice_index xs j) (assignments n k) i [] 0 l)
    ∙ read_all (get_or (assignments n k) i []) k long

value_long : (a : FiniteAlgebra) (k : ℕ) (t : Tree) → IsTerm (arities_of a) k t → length (term_value (power_of_assignments a k) (projections a.size k) t) ≡ a.size ^ k
value_long a k (Generator j) h =
    ap length (get_or-map-range_with_len (projection a.size k) 0 k j j [] h (omega arith)) ∙ length-map (assignments a.size k) (λ (xs : List ℕ). slice_index xs j) ∙ length_assignments a.size k
value_long a k (Application f ts) h =
    length-apply (power_of_assignments a k) f (term_values (power_of_assignments a k) (projections a.size k) ts) ∙ length-replicate (a.size ^ k) a

-- the value of a term in the power, where variables are the projections, has at each coordinate the term's value at the assignment there
pub value_is_operation : (a : FiniteAlgebra) (k : ℕ) (t : Tree) → IsTerm (arities_of a) k t → term_value (power_of_assignments a k) (projections a.size k) t ≡ term_operation a k t
value_is_operation a k t h =
    let long = value_long a k t h in
    let count = length_assignments a.size k in
    ext_get_or 0 (term_value (power_of_assignments a k) (projections a.size k) t) (term_operation a k t) (long ∙ sym count ∙ sym (length-map (assignments a.size k) (λ xs. eval a xs t))) (λ i l.
    let low : i < a.size ^ k = omega (arith, l, long) in
    let within : i < length (assignments a.size k) = omega (arith, low, count) in
    let stands = assignment_from a.size k (get_or (assignments a.size k) i []) (i, within, get_or_default (assignments a.size k) i (get_or (assignments a.size k) i []) [] within) in
    value_is_eval (power_of_assignments a k) (projections a.size k) i a (slice_get-replicate (a.size ^ k) i a low) t
    ∙ ap (λ ys. eval a ys t) (column_is a.size k i within stands.count)
    ∙ sym (get_or-map (λ xs. eval a xs t) (assignments a.size k) i [] 0 within))
