-- Terms and members, places, and chains of length 0.
use Rattle.std.proofs.Common.{◌≡◌, ◌≢◌, ℕ, zero, suc, ◌<◌, ◌≤◌, List, [], ◌∷◌, length, map, set, replicate, refl, sym, ap, ◌∙◌, subst, arith, ⊎_elim}
use Rattle.std.specs.Prelude.{Contains, ◌↔◌, slice_index}
use Rattle.std.specs.List.{AllByRecursion}
use Rattle.std.proofs.lemmas.List.{length-map, length-replicate, get_or-set_same, get_or-set_other, length-set, get_or-replicate, get_or-map}
use Rattle.std.proofs.lemmas.Bool.{cases_lt}
use Rattle.ua_table.specs.Algebras.{Vector, FiniteAlgebra, arities, arities_of}
use Rattle.ua_table.specs.Terms.{Tree, Generator, IsTerm, eval}
use Rattle.ua_table.specs.Generated.{Sg}
use Rattle.std.proofs.lemmas.List.FromFn.{length-map-range_with_len}
use Rattle.ua_table.proofs.Lists.{Contains-map, Contains-map_from, Contains-flat_map, Contains-flat_map_from, all_at, all_set, all_weaker}
use Rattle.ua_table.proofs.FrameLaws.{arities_of_power}
use Rattle.std.proofs.lemmas.List.Elements.{All-from_recursion}
use Rattle.ua_term.specs.Assignments.{IsAssignment, assignments}
use Rattle.ua_term.proofs.AssignmentLaws.{assignment_from, assignment_in, maps_agree}
use Rattle.ua_identity.specs.Identities.{VariablePattern, TermIdentity, filled, Satisfies}
use Rattle.ua_identity.specs.Chains.{ChainKind, IsPlace, IsOwn, IsChain, chain_length, IsLeastChain}
use Rattle.ua_identity.proofs.KindLaws.{apart_at}
use Rattle.ua_identity.specs.Kinds.{IsKind, IsOwnIdentity, IsPatternOf}
use Rattle.ua_identity.specs.Patterns.{fillings, all_fillings, vector_of, place_vector, pattern_power, generators}
use Rattle.ua_identity.proofs.ConditionLaws.{filled_all}
use Rattle.ua_identity.proofs.PatternLaws.{AreFilled, value_is_vector, agree_maps}

-- ---- terms and members

-- each filling has as many places
pub all_filled : (places n : ℕ) (ps : List VariablePattern) → AllByRecursion (IsPatternOf places) ps → AreFilled places (all_fillings n ps)
all_filled places n ps h = filled_all places n ps (all_weaker (IsPatternOf places) (λ (p : VariablePattern). length p.places ≡ places) (λ p is. is.count) ps h)

pub generator_count : (a : FiniteAlgebra) (ps : List VariablePattern) (places : ℕ) → length (generators a ps places) ≡ places
generator_count a ps places = length-map-range_with_len (place_vector (all_fillings a.size ps)) 0 places

-- the vector of a term is a member, and each member is the vector of a term
pub member_of_term : (a : FiniteAlgebra) (kind : ChainKind) (t : Tree) → IsKind kind → 0 < length (all_fillings a.size kind.patterns)
    → IsTerm (arities_of a) kind.places t → Sg (pattern_power a kind.patterns) (generators a kind.patterns kind.places) (vector_of a kind.patterns t)
member_of_term a kind t k wide h =
    let fs = all_fillings a.size kind.patterns in
    record {
      term = t;
      is_term = subst (λ n. IsTerm (arities (pattern_power a kind.patterns)) n t) (sym (generator_count a kind.patterns kind.places)) (subst (λ (ks : List ℕ). IsTerm ks kind.places t) (sym (arities_of_power a (length fs) wide)) h);
      value = value_is_vector a fs kind.places t (all_filled kind.places a.size kind.patterns k.patterns) h;
    }

pub term_of_member : (a : FiniteAlgebra) (kind : ChainKind) (v : Vector) → IsKind kind → 0 < length (all_fillings a.size kind.patterns)
    → Sg (pattern_power a kind.patterns) (generators a kind.patterns kind.places) v
    → (t : Tree) × IsTerm (arities_of a) kind.places t × (vector_of a kind.patterns t ≡ v)
term_of_member a kind v k wide s =
    let fs = all_fillings a.size kind.patterns in
    let is : IsTerm (arities_of a) kind.places s.term =
    subst (λ (ks : List ℕ). IsTerm ks kind.places s.term) (arities_of_power a (length fs) wide)
    (subst (λ n. IsTerm (arities (pattern_power a kind.patterns)) n s.term) (generator_count a kind.patterns kind.places) s.is_term) in
    (s.term, is, sym (value_is_vector a fs kind.places s.term (all_filled kind.places a.size kind.patterns k.patterns) is) ∙ s.value)

-- ---- places

filling_assigns : (a : FiniteAlgebra) (places : ℕ) (p : VariablePattern) (xs : List ℕ) → IsPatternOf places p → IsAssignment a.size p.variables xs → IsAssignment a.size places (filled p xs)
filling_assigns a places p xs h k = record { count = length-map p.places (slice_index xs) ∙ h.count; elements = each p.places h.named }
  where
    each : (vs : List ℕ) → AllByRecursion (λ v. v < p.variables) vs → AllByRecursion (λ x. x < a.size) (map (slice_index xs) vs)
    each [] n = tt
    each (v ∷ vs) n = (All-from_recursion (λ x. x < a.size) xs k.elements v 0 (let low = n.0 in let long = k.count in omega arith), each vs n.1)

pub fillings_assign : (a : FiniteAlgebra) (places : ℕ) (ps : List VariablePattern) (ys : List ℕ) → AllByRecursion (IsPatternOf places) ps → Contains (all_fillings a.size ps) ys → IsAssignment a.size places ys
fillings_assign a places ps ys h c =
    let p = Contains-flat_map_from (fillings a.size) ys ps c in
    let xs = Contains-map_from (filled p.0) ys (assignments a.size p.0.variables) p.2 in
    subst (IsAssignment a.size places) xs.2 (filling_assigns a places p.0 xs.0 (all_at (IsPatternOf places) ps p.0 h p.1) (assignment_from a.size p.0.variables xs.0 xs.1))

-- a term that is always at place j has the vector of generator j
pub place_has_vector : (a : FiniteAlgebra) (kind : ChainKind) (j : ℕ) (t : Tree) → IsKind kind → IsPlace a kind.places j t → vector_of a kind.patterns t ≡ vector_of a kind.patterns (Generator j)
place_has_vector a kind j t k h =
    maps_agree (λ xs. eval a xs t) (λ xs. slice_index xs j) (all_fillings a.size kind.patterns) (λ xs c. h xs (fillings_assign a kind.places kind.patterns xs k.patterns c))

-- place 0 and the end satisfy what each term does
place_satisfies : (a : FiniteAlgebra) (i : TermIdentity) (j : ℕ) → j < length i.pattern.places → slice_index i.pattern.places j ≡ i.value → Satisfies a (Generator j) i
place_satisfies a i j l e xs h = get_or-map (slice_index xs) i.pattern.places j 0 0 l ∙ ap (slice_index xs) e

pub first_is_own : (a : FiniteAlgebra) (kind : ChainKind) → IsKind kind → IsOwn a kind (Generator 0)
first_is_own a kind k = all_weaker (IsOwnIdentity kind) (Satisfies a (Generator 0)) (λ i h. place_satisfies a i 0 (let n = h.pattern.count in let some = k.some in let end = k.end in omega arith) h.first) kind.own k.own

pub end_is_own : (a : FiniteAlgebra) (kind : ChainKind) → IsKind kind → IsOwn a kind (Generator kind.end)
end_is_own a kind k = all_weaker (IsOwnIdentity kind) (Satisfies a (Generator kind.end)) (λ i h. place_satisfies a i kind.end (let n = h.pattern.count in let end = k.end in omega arith) h.last) kind.own k.own

-- an assignment with two given elements at two variables
two_elements : (a : FiniteAlgebra) (n v w x y : ℕ) → v < n → w < n → v ≢ w → x < a.size → y < a.size → (xs : List ℕ) × IsAssignment a.size n xs × (slice_index xs v ≡ x) × (slice_index xs w ≡ y)
two_elements a n v w x y lv lw apart lx ly =
    let xs = set (replicate n x) w y in
    let long = length-replicate n x in (
      xs,
      record { count = length-set (replicate n x) w y ∙ long; elements = all_set (λ z. z < a.size) (replicate n x) w y ly (all_same n) },
      get_or-set_other (replicate n x) w v y 0 apart ∙ get_or-replicate n v x 0 lv,
      get_or-set_same (replicate n x) w y 0 (omega (arith, long, lw)),
    )
  where
    all_same : (n : ℕ) → AllByRecursion (λ z. z < a.size) (replicate n x)
    all_same zero = tt
    all_same (suc n) = (lx, all_same n)

-- where an earlier place and the end have the same vector, there is one element
pub one_element : (a : FiniteAlgebra) (kind : ChainKind) (j : ℕ) → IsKind kind → j < kind.end → vector_of a kind.patterns (Generator j) ≡ vector_of a kind.patterns (Generator kind.end) → (x y : ℕ) → x < a.size → y < a.size → x ≡ y
one_element a kind j k l same x y lx ly =
    let apart = apart_at kind j k l in
    let p = apart.pattern in
    let is = all_at (IsPatternOf kind.places) kind.patterns p k.patterns apart.there in
    let v = slice_index p.places j in
    let w = slice_index p.places kind.end in
    let count = is.count in
    let last = k.end in
    let lv = All-from_recursion (λ u. u < p.variables) p.places is.named j 0 (omega arith) in
    let lw = All-from_recursion (λ u. u < p.variables) p.places is.named kind.end 0 (omega arith) in
    let two = two_elements a p.variables v w x y lv lw apart.apart lx ly in
    let here = Contains-flat_map (fillings a.size) p (filled p two.0) kind.patterns apart.there (Contains-map (filled p) two.0 (assignments a.size p.variables) (assignment_in a.size p.variables two.0 two.1)) in
    let agree = agree_maps (λ ys. slice_index ys j) (λ ys. slice_index ys kind.end) (all_fillings a.size kind.patterns) same (filled p two.0) here in
    sym two.2 ∙ sym (get_or-map (slice_index two.0) p.places j 0 0 (omega arith)) ∙ agree ∙ get_or-map (slice_index two.0) p.places kind.end 0 0 (omega arith) ∙ two.3

-- where place 0 and the end have the same vector, place 0 is the end
pub ends_at_first : (a : FiniteAlgebra) (kind : ChainKind) → IsKind kind → vector_of a kind.patterns (Generator 0) ≡ vector_of a kind.patterns (Generator kind.end) → IsPlace a kind.places kind.end (Generator 0)
ends_at_first a kind k same xs h =
    let long = h.count in
    let last = k.end in
    let some = k.some in
    one_element a kind 0 k k.some same (slice_index xs 0) (slice_index xs kind.end)
    (All-from_recursion (λ u. u < a.size) xs h.elements 0 0 (omega arith))
    (All-from_recursion (λ u. u < a.size) xs h.elements kind.end 0 (omega arith))

-- so all places have the same vector
pub same_vectors : (a : FiniteAlgebra) (kind : ChainKind) (i j : ℕ) → IsKind kind → i < kind.places → j < kind.places
    → ((x y : ℕ) → x < a.size → y < a.size → x ≡ y) → vector_of a kind.patterns (Generator i) ≡ vector_of a kind.patterns (Generator j)
same_vectors a kind i j k li lj one =
    maps_agree (λ ys. slice_index ys i) (λ ys. slice_index ys j) (all_fillings a.size kind.patterns) (λ ys c.
    let h = fillings_assign a kind.places kind.patterns ys k.patterns c in
    let long = h.count in
    one (slice_index ys i) (slice_index ys j) (All-from_recursion (λ u. u < a.size) ys h.elements i 0 (omega arith)) (All-from_recursion (λ u. u < a.size) ys h.elements j 0 (omega arith)))

-- ---- chains of length 0

one_term : (a : FiniteAlgebra) (kind : ChainKind) (t : Tree) → IsKind kind → IsChain a kind (t ∷ []) → (x y : ℕ) → x < a.size → y < a.size → x ≡ y
one_term a kind t k h = one_element a kind 0 k k.some (sym (place_has_vector a kind 0 t k h.beginning.first) ∙ place_has_vector a kind kind.end t k h.last)

one_place_chain : (a : FiniteAlgebra) (kind : ChainKind) → IsKind kind → ((x y : ℕ) → x < a.size → y < a.size → x ≡ y) → IsChain a kind (Generator 0 ∷ [])
one_place_chain a kind k one = record {
  beginning = record { terms_are = ((let end = k.end in omega arith), tt); first = λ xs h. refl; own = (first_is_own a kind k, tt); linked = tt };
  last = λ xs h.
      let long = h.count in
      let end = k.end in
      one (slice_index xs 0) (slice_index xs kind.end) (All-from_recursion (λ u. u < a.size) xs h.elements 0 0 (omega arith)) (All-from_recursion (λ u. u < a.size) xs h.elements kind.end 0 (omega arith));
}

few_elements : (n : ℕ) → ((x y : ℕ) → x < n → y < n → x ≡ y) → n ≤ 1
few_elements n one = ⊎_elim (λ more. absurd (let same = one 0 1 (omega (arith, more)) more in omega (arith, same))) (λ few. few) (cases_lt 1 n)

-- a least chain has length 0 exactly where there is one element at most
pub length_zero : (a : FiniteAlgebra) (kind : ChainKind) (terms : List Tree) → IsKind kind → IsLeastChain a kind terms → (chain_length terms ≡ 0) ↔ (a.size ≤ 1)
length_zero a kind terms k h = (
  λ none. few_elements a.size (by terms none h.chain),
  λ few. let least = h.least (Generator 0 ∷ []) (one_place_chain a kind k (λ x y lx ly. omega (arith, few, lx, ly))) in omega (arith, least),
)
  where
    by : (terms : List Tree) → chain_length terms ≡ 0 → IsChain a kind terms → (x y : ℕ) → x < a.size → y < a.size → x ≡ y
    by [] none c = absurd c.last
    by (t ∷ []) none c = one_term a kind t k c
    by (t ∷ u ∷ terms) none c = absurd (omega (arith, none))
