-- Fillings of one pattern after another.
use Rattle.std.proofs.Common.{◌≡◌, ℕ, ◌+◌, ◌^◌, ◌<◌, ◌≤◌, List, [], ◌∷◌, ◌++◌, length, map, take, drop, get_or, sym, ap, ◌∙◌, arith}
use Rattle.std.specs.Prelude.{slice_index}
use Rattle.std.specs.List.{flat_map}
use Rattle.std.proofs.lemmas.Grind.{flat_map-append}
use Rattle.std.proofs.lemmas.List.{length-map, length-append, length-replicate, map-append, append-nil, take_more, take-append-drop, get_or-map}
use Rattle.std.proofs.lemmas.List.Folds.{length-flat_map-take}
use Rattle.std.proofs.lemmas.Simd.{map-map}
use Rattle.std.proofs.Math.Nat.{one-le-pow}
use Rattle.ua_table.specs.Algebras.{FiniteAlgebra}
use Rattle.ua_term.specs.Assignments.{assignments, projection}
use Rattle.ua_term.proofs.AssignmentLaws.{length_assignments, maps_agree}
use Rattle.ua_identity.specs.Identities.{VariablePattern, filled}
use Rattle.ua_identity.specs.Patterns.{fillings, all_fillings, place_vector, pattern_power}

-- one piece more
pub pieces_more : {X Y : Type 0} (g : X → List Y) (xs : List X) (i : ℕ) (d : X) → i < length xs → flat_map g (take (i + 1) xs) ≡ flat_map g (take i xs) ++ g (get_or xs i d)
pieces_more g xs i d l = ap (flat_map g) (take_more xs i d l) ∙ flat_map-append g (take i xs) (get_or xs i d ∷ []) ∙ ap (λ ys. flat_map g (take i xs) ++ ys) (append-nil (g (get_or xs i d)))

pub length_fillings : (n : ℕ) (p : VariablePattern) → length (fillings n p) ≡ n ^ p.variables
length_fillings n p = length-map (assignments n p.variables) (filled p) ∙ length_assignments n p.variables

-- over some pattern there is some filling
pub patterns_wide : (n : ℕ) (ps : List VariablePattern) → 0 < n → 0 < length ps → 0 < length (all_fillings n ps)
patterns_wide n [] some l = absurd (omega (arith, l))
patterns_wide n (p ∷ ps) some l =
    let one = length_fillings n p in
    let low : 0 < n ^ p.variables = one-le-pow p.variables n some in
    let both = length-append (fillings n p) (all_fillings n ps) in
    omega (arith, one, low, both)

pub power_wide : (a : FiniteAlgebra) (ps : List VariablePattern) → 0 < a.size → 0 < length ps → 0 < length (pattern_power a ps)
power_wide a ps some l = let wide = patterns_wide a.size ps some l in let long = length-replicate (length (all_fillings a.size ps)) a in omega (arith, wide, long)

-- as many fillings more as there are assignments
pub width_more : (n : ℕ) (ps : List VariablePattern) (i : ℕ) (p : VariablePattern) → i < length ps → p ≡ get_or ps i p → length (all_fillings n (take (i + 1) ps)) ≡ length (all_fillings n (take i ps)) + n ^ p.variables
width_more n ps i p l e =
    ap length (pieces_more (fillings n) ps i p l) ∙ length-append (all_fillings n (take i ps)) (fillings n (get_or ps i p))
    ∙ ap (λ (q : VariablePattern). length (all_fillings n (take i ps)) + length (fillings n q)) (sym e)
    ∙ ap (λ k. length (all_fillings n (take i ps)) + k) (length_fillings n p)

-- those of one pattern are no more than all
pub one_narrow : (n : ℕ) (ps : List VariablePattern) (i : ℕ) (p : VariablePattern) → i < length ps → p ≡ get_or ps i p → n ^ p.variables ≤ length (all_fillings n ps)
one_narrow n ps i p l e =
    let low = length-flat_map-take (fillings n) ps i p l in
    let same = ap (λ (q : VariablePattern). length (fillings n q)) (sym e) ∙ length_fillings n p in
    omega (arith, low, same)

-- those of the first patterns are no more than all
pub start_narrow : (n : ℕ) (ps : List VariablePattern) (k : ℕ) → length (all_fillings n (take k ps)) ≤ length (all_fillings n ps)
start_narrow n ps k =
    let whole = ap length (sym (flat_map-append (fillings n) (take k ps) (drop k ps)) ∙ ap (all_fillings n) (take-append-drop k ps)) in
    let parts = length-append (all_fillings n (take k ps)) (all_fillings n (drop k ps)) in
    omega (arith, whole, parts)

-- what stands at a place under one pattern more
pub place_more : (n : ℕ) (ps : List VariablePattern) (i j : ℕ) (p : VariablePattern) → i < length ps → p ≡ get_or ps i p → j < length p.places
    → place_vector (all_fillings n (take (i + 1) ps)) j
    ≡ place_vector (all_fillings n (take i ps)) j ++ projection n p.variables (slice_index p.places j)
place_more n ps i j p l e low =
    let at = λ (xs : List ℕ). slice_index xs j in
    ap (λ (fs : List (List ℕ)). map at fs) (pieces_more (fillings n) ps i p l ∙ ap (λ (q : VariablePattern). all_fillings n (take i ps) ++ fillings n q) (sym e))
    ∙ map-append at (all_fillings n (take i ps)) (fillings n p)
    ∙ ap (λ (ys : List ℕ). place_vector (all_fillings n (take i ps)) j ++ ys)
    (map-map at (filled p) (assignments n p.variables) ∙ maps_agree (λ xs. slice_index (filled p xs) j) (λ xs. slice_index xs (slice_index p.places j)) (assignments n p.variables) (λ xs c. get_or-map (slice_index xs) p.places j 0 0 low))
