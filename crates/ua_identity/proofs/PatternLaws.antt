-- Vectors of terms on patterns.
use Rattle.std.proofs.Common.{◌≡◌, ℕ, zero, suc, ◌+◌, ◌<◌, List, [], ◌∷◌, ◌++◌, length, map, take, drop, get_or, replicate, refl, sym, ap, ◌∙◌, subst, arith, Some, ⊎_elim}
use Rattle.std.specs.Prelude.{Contains, slice_get, slice_index}
use Rattle.std.specs.List.{AllByRecursion, range_with_len}
use Rattle.std.proofs.lemmas.List.{ext_get_or, get_or-map, length-map, length-replicate, length-append, map-append, take_at, drop-drop, drop_at}
use Rattle.std.proofs.lemmas.List.FromFn.{get_or-map-range_with_len}
use Rattle.std.proofs.lemmas.Simd.{map-map}
use Rattle.ua_table.specs.Algebras.{Vector, FiniteAlgebra, arities_of, column}
use Rattle.ua_table.specs.Terms.{Tree, Generator, Application, IsTerm, term_value, term_values, eval}
use Rattle.ua_table.proofs.Lists.{Contains-cases, Contains-none, slice_get-replicate}
use Rattle.ua_table.proofs.TermLaws.{value_is_eval}
use Rattle.ua_table.proofs.ApplyLaws.{length-apply}
use Rattle.ua_term.specs.Assignments.{assignments}
use Rattle.ua_term.proofs.AssignmentLaws.{assignment_in, assignment_from, read_all}
use Rattle.ua_term.proofs.AssignmentLaws.{maps_agree}
use Rattle.ua_identity.specs.Identities.{VariablePattern, TermIdentity, filled, at_pattern, Satisfies}
use Rattle.ua_identity.specs.Chains.{Link, AreLinked}
use Rattle.ua_identity.specs.Patterns.{fillings, all_fillings, place_vector, start_of, part_of}

-- ---- what stands at places

head_of : {Y : Type 0} (x y : Y) (xs ys : List Y) → (x ∷ xs) ≡ (y ∷ ys) → x ≡ y
head_of x y xs ys e = cc

tail_of : {Y : Type 0} (x y : Y) (xs ys : List Y) → (x ∷ xs) ≡ (y ∷ ys) → xs ≡ ys
tail_of x y xs ys e = cc

pub agree_maps : {X Y : Type 0} (f g : X → Y) (xs : List X) → map f xs ≡ map g xs → (x : X) → Contains xs x → f x ≡ g x
agree_maps f g [] e x c = absurd (Contains-none x c)
agree_maps f g (y ∷ xs) e x c =
    ⊎_elim (λ same. subst (λ z. f z ≡ g z) same (head_of (f y) (g y) (map f xs) (map g xs) e)) (λ rest. agree_maps f g xs (tail_of (f y) (g y) (map f xs) (map g xs) e) x rest) (Contains-cases y x xs c)

-- ---- the vector of a term is its value in the power

-- each filling has as many places
abbrev pub AreFilled : ℕ → List (List ℕ) → Type 0
AreFilled places fs = AllByRecursion (λ (xs : List ℕ). length xs ≡ places) fs

filled_at : (places : ℕ) (fs : List (List ℕ)) (i : ℕ) → AreFilled places fs → i < length fs → length (get_or fs i []) ≡ places
filled_at places [] i h l = absurd (omega (arith, l))
filled_at places (xs ∷ fs) zero h l = h.0
filled_at places (xs ∷ fs) (suc i) h l = filled_at places fs i h.1 (omega (arith, l))

column_is : (fs : List (List ℕ)) (places i : ℕ) → AreFilled places fs → i < length fs → column (map (place_vector fs) (range_with_len 0 places)) i ≡ get_or fs i []
column_is fs places i h l =
    map-map (λ (v : Vector). slice_index v i) (place_vector fs) (range_with_len 0 places)
    ∙ maps_agree (λ j. slice_index (place_vector fs j) i) (slice_index (get_or fs i [])) (range_with_len 0 places) (λ j c. get_or-map (λ (xs : List ℕ). slice_index xs j) fs i [] 0 l)
    ∙ read_all (get_or fs i []) places (filled_at places fs i h l)

value_long : (a : FiniteAlgebra) (fs : List (List ℕ)) (places : ℕ) (t : Tree) → IsTerm (arities_of a) places t → length (term_value (replicate (length fs) a) (map (place_vector fs) (range_with_len 0 places)) t) ≡ length fs
value_long a fs places (Generator j) h =
    ap length (get_or-map-range_with_len (place_vector fs) 0 places j j [] h (omega arith)) ∙ length-map fs (λ (xs : List ℕ). slice_index xs j)
value_long a fs places (Application f ts) h = length-apply (replicate (length fs) a) f (term_values (replicate (length fs) a) (map (place_vector fs) (range_with_len 0 places)) ts) ∙ length-replicate (length fs) a

pub value_is_vector : (a : FiniteAlgebra) (fs : List (List ℕ)) (places : ℕ) (t : Tree) → AreFilled places fs → IsTerm (arities_of a) places t
    → term_value (replicate (length fs) a) (map (place_vector fs) (range_with_len 0 places)) t ≡ map (λ xs. eval a xs t) fs
value_is_vector a fs places t filled h =
    let gens = map (place_vector fs) (range_with_len 0 places) in
    let long = value_long a fs places t h in
    ext_get_or 0 (term_value (replicate (length fs) a) gens t) (map (λ xs. eval a xs t) fs) (long ∙ sym (length-map fs (λ xs. eval a xs t))) (λ i l.
    let low : i < length fs = omega (arith, l, long) in
    value_is_eval (replicate (length fs) a) gens i a (slice_get-replicate (length fs) i a low) t
    ∙ ap (λ ys. eval a ys t) (column_is fs places i filled low)
    ∙ sym (get_or-map (λ xs. eval a xs t) fs i [] 0 low))

-- ---- the parts of a vector

-- the part at a pattern is what the pattern's fillings give
pub part_is : (n : ℕ) (ps : List VariablePattern) (m : ℕ) (p : VariablePattern) (f : List ℕ → ℕ) → slice_get ps m ≡ Some p → part_of n ps m p (map f (all_fillings n ps)) ≡ map f (fillings n p)
part_is n [] m p f e = cc
part_is n (q ∷ ps) zero p f e =
    let same : q ≡ p = cc in
    let front : map f (all_fillings n (q ∷ ps)) ≡ map f (fillings n p) ++ map f (all_fillings n ps) = map-append f (fillings n q) (all_fillings n ps) ∙ ap (λ (r : VariablePattern). map f (fillings n r) ++ map f (all_fillings n ps)) same in
    ap (take (length (fillings n p))) front ∙ take_at (map f (fillings n p)) (map f (all_fillings n ps)) (length (fillings n p)) (length-map (fillings n p) f)
part_is n (q ∷ ps) (suc m) p f e =
    let behind : start_of n (q ∷ ps) (suc m) ≡ length (map f (fillings n q)) + start_of n ps m = length-append (fillings n q) (all_fillings n (take m ps)) ∙ ap (λ k. k + start_of n ps m) (sym (length-map (fillings n q) f)) in
    let front = map-append f (fillings n q) (all_fillings n ps) in
    ap (take (length (fillings n p)))
    (ap (λ k. drop k (map f (all_fillings n (q ∷ ps)))) behind
    ∙ ap (drop (length (map f (fillings n q)) + start_of n ps m)) front
    ∙ sym (drop-drop (start_of n ps m) (length (map f (fillings n q))) (map f (fillings n q) ++ map f (all_fillings n ps)))
    ∙ ap (drop (start_of n ps m)) (drop_at (map f (fillings n q)) (map f (all_fillings n ps)) (length (map f (fillings n q))) refl))
    ∙ part_is n ps m p f e

-- two terms are linked exactly where their vectors have the same parts
fillings_map : (n : ℕ) (p : VariablePattern) (f : List ℕ → ℕ) → map f (fillings n p) ≡ map (λ xs. f (filled p xs)) (assignments n p.variables)
fillings_map n p f = map-map f (filled p) (assignments n p.variables)

pub linked_from_parts : (a : FiniteAlgebra) (l : Link) (d e : Tree) → l.pattern.variables ≡ l.next.variables → map (λ xs. eval a xs d) (fillings a.size l.pattern) ≡ map (λ xs. eval a xs e) (fillings a.size l.next) → AreLinked a l d e
linked_from_parts a l d e same parts xs h =
    let all : map (λ ys. at_pattern a l.pattern d ys) (assignments a.size l.pattern.variables) ≡ map (λ ys. at_pattern a l.next e ys) (assignments a.size l.pattern.variables) =
    sym (fillings_map a.size l.pattern (λ ys. eval a ys d)) ∙ parts ∙ fillings_map a.size l.next (λ ys. eval a ys e) ∙ ap (λ k. map (λ ys. at_pattern a l.next e ys) (assignments a.size k)) (sym same) in
    agree_maps (λ ys. at_pattern a l.pattern d ys) (λ ys. at_pattern a l.next e ys) (assignments a.size l.pattern.variables) all xs (assignment_in a.size l.pattern.variables xs h)

pub parts_from_linked : (a : FiniteAlgebra) (l : Link) (d e : Tree) → l.pattern.variables ≡ l.next.variables → AreLinked a l d e → map (λ xs. eval a xs d) (fillings a.size l.pattern) ≡ map (λ xs. eval a xs e) (fillings a.size l.next)
parts_from_linked a l d e same h =
    fillings_map a.size l.pattern (λ ys. eval a ys d)
    ∙ maps_agree (λ ys. at_pattern a l.pattern d ys) (λ ys. at_pattern a l.next e ys) (assignments a.size l.pattern.variables) (λ xs c. h xs (assignment_from a.size l.pattern.variables xs c))
    ∙ ap (λ k. map (λ ys. at_pattern a l.next e ys) (assignments a.size k)) same
    ∙ sym (fillings_map a.size l.next (λ ys. eval a ys e))

-- a term satisfies an identity exactly where its vector has the variable's values as its part
pub satisfied_from_part : (a : FiniteAlgebra) (i : TermIdentity) (t : Tree) → map (λ xs. eval a xs t) (fillings a.size i.pattern) ≡ map (λ xs. slice_index xs i.value) (assignments a.size i.pattern.variables) → Satisfies a t i
satisfied_from_part a i t part xs h =
    agree_maps (λ ys. at_pattern a i.pattern t ys) (λ ys. slice_index ys i.value) (assignments a.size i.pattern.variables) (sym (fillings_map a.size i.pattern (λ ys. eval a ys t)) ∙ part) xs (assignment_in a.size i.pattern.variables xs h)

pub part_from_satisfied : (a : FiniteAlgebra) (i : TermIdentity) (t : Tree) → Satisfies a t i → map (λ xs. eval a xs t) (fillings a.size i.pattern) ≡ map (λ xs. slice_index xs i.value) (assignments a.size i.pattern.variables)
part_from_satisfied a i t h =
    fillings_map a.size i.pattern (λ ys. eval a ys t) ∙ maps_agree (λ ys. at_pattern a i.pattern t ys) (λ ys. slice_index ys i.value) (assignments a.size i.pattern.variables) (λ xs c. h xs (assignment_from a.size i.pattern.variables xs c))
