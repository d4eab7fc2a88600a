-- What assignments give to a variable, run by run.
use Rattle.std.proofs.Common.{◌≡◌, ℕ, zero, suc, ◌+◌, ◌-◌, ◌*◌, ◌^◌, ◌<◌, ◌≤◌, List, [], ◌∷◌, ◌++◌, length, map, replicate, refl, sym, ap, ◌∙◌, arith}
use Rattle.std.specs.Prelude.{slice_index}
use Rattle.std.specs.List.{flat_map, range_with_len}
use Rattle.std.proofs.lemmas.Grind.{flat_map-append}
use Rattle.std.proofs.lemmas.List.{append_assoc, append-nil}
use Rattle.std.proofs.lemmas.List.FromFn.{length-range_with_len}
use Rattle.std.proofs.Math.Nat.{pow-suc, pow-zero, pow-le-pow_right}
use Rattle.ua_table.specs.declared.limits.TheConstants.{WIDTH}
use Rattle.ua_term.specs.Assignments.{assignments, projection}
use Rattle.ua_table.proofs.Lists.{map-flat_map, flat_map_agree}
use Rattle.ua_term.proofs.AssignmentLaws.{length_assignments}

-- a list so often
abbrev pub copies : {X : Type 0} → ℕ → List X → List X
copies zero xs = []
copies (suc n) xs = copies n xs ++ xs

-- each element so often, one after another
abbrev pub round : ℕ → ℕ → List ℕ
round n often = flat_map (replicate often) (range_with_len 0 n)

turned : {X : Type 0} (n : ℕ) (xs : List X) → xs ++ copies n xs ≡ copies n xs ++ xs
turned zero xs = append-nil xs
turned (suc n) xs = sym (append_assoc xs (copies n xs) xs) ∙ ap (λ ys. ys ++ xs) (turned n xs)

copies_and : {X : Type 0} (m n : ℕ) (xs : List X) → copies (m + n) xs ≡ copies n xs ++ copies m xs
copies_and zero n xs = (let e : 0 + n ≡ n = omega arith in ap (λ k. copies k xs) e) ∙ sym (append-nil (copies n xs))
copies_and (suc m) n xs =
    let e : suc m + n ≡ suc (m + n) = omega arith in
    ap (λ k. copies k xs) e ∙ ap (λ ys. ys ++ xs) (copies_and m n xs) ∙ append_assoc (copies n xs) (copies m xs) xs

copies_of : {X : Type 0} (m n : ℕ) (xs : List X) → copies (m * n) xs ≡ copies m (copies n xs)
copies_of zero n xs = (let z : 0 * n ≡ 0 = omega arith in ap (λ k. copies k xs) z)
copies_of (suc m) n xs =
    let e : suc m * n ≡ n + m * n = omega arith in
    ap (λ k. copies k xs) e ∙ copies_and n (m * n) xs ∙ ap (λ ys. ys ++ copies n xs) (copies_of m n xs)

same_pieces : {X Y : Type 0} (g : X → List Y) (ys : List Y) (h : (x : X) → g x ≡ ys) (xs : List X) → flat_map g xs ≡ copies (length xs) ys
same_pieces g ys h [] = refl
same_pieces g ys h (x ∷ xs) = (λ i. h x i ++ same_pieces g ys h xs i) ∙ turned (length xs) ys

first_entries : (x : ℕ) (ts : List (List ℕ)) → map (λ (xs : List ℕ). slice_index xs 0) (map (λ (t : List ℕ). x ∷ t) ts) ≡ replicate (length ts) x
first_entries x [] = refl
first_entries x (t ∷ ts) = ap (λ ys. x ∷ ys) (first_entries x ts)

later_entries : (x v : ℕ) (ts : List (List ℕ)) → map (λ (xs : List ℕ). slice_index xs (suc v)) (map (λ (t : List ℕ). x ∷ t) ts) ≡ map (λ (xs : List ℕ). slice_index xs v) ts
later_entries x v [] = refl
later_entries x v (t ∷ ts) = ap (λ ys. slice_index t v ∷ ys) (later_entries x v ts)

-- rounds of all elements: as many as the variables before it have assignments, in runs as long as those behind it have
pub projection_is : (n k v : ℕ) → v < k → projection n k v ≡ copies (n ^ v) (round n (n ^ (k - 1 - v)))
projection_is n zero v l = absurd (omega (arith, l))
projection_is n (suc k) zero l =
    let behind : suc k - 1 - 0 ≡ k = omega arith in
    map-flat_map (λ (xs : List ℕ). slice_index xs 0) (λ x. map (λ (t : List ℕ). x ∷ t) (assignments n k)) (range_with_len 0 n)
    ∙ flat_map_agree (λ x. map (λ (xs : List ℕ). slice_index xs 0) (map (λ (t : List ℕ). x ∷ t) (assignments n k))) (replicate (n ^ (suc k - 1 - 0)))
    (λ x. first_entries x (assignments n k) ∙ ap (λ m. replicate m x) (length_assignments n k ∙ ap (λ e. n ^ e) (sym behind))) (range_with_len 0 n)
    ∙ ap (λ m. copies m (round n (n ^ (suc k - 1 - 0)))) (sym (pow-zero n))
projection_is n (suc k) (suc v) l =
    let behind : suc k - 1 - suc v ≡ k - 1 - v = omega arith in
    let product : n * n ^ v ≡ n ^ suc v = (let p = pow-suc n v in omega (arith, p)) in
    let many = length-range_with_len 0 n in
    map-flat_map (λ (xs : List ℕ). slice_index xs (suc v)) (λ x. map (λ (t : List ℕ). x ∷ t) (assignments n k)) (range_with_len 0 n)
    ∙ same_pieces (λ x. map (λ (xs : List ℕ). slice_index xs (suc v)) (map (λ (t : List ℕ). x ∷ t) (assignments n k))) (projection n k v) (λ x. later_entries x v (assignments n k)) (range_with_len 0 n)
    ∙ ap (λ m. copies m (projection n k v)) many
    ∙ ap (copies n) (projection_is n k v (omega (arith, l)))
    ∙ sym (copies_of n (n ^ v) (round n (n ^ (k - 1 - v))))
    ∙ (λ i. copies (product i) (round n (n ^ sym behind i)))

-- one run more
range_more : (a n j : ℕ) → a + n ≡ j → range_with_len a (suc n) ≡ range_with_len a n ++ j ∷ []
range_more a zero j e = (let same : a ≡ j = omega (arith, e) in ap (λ k. k ∷ []) same)
range_more a (suc n) j e = ap (λ ks. a ∷ ks) (range_more (a + 1) n j (omega (arith, e)))

pub runs_more : (often x : ℕ) → round (x + 1) often ≡ round x often ++ replicate often x
runs_more often x =
    let one : x + 1 ≡ suc x = omega arith in
    ap (λ k. round k often) one ∙ ap (flat_map (replicate often)) (range_more 0 x x (omega arith)) ∙ flat_map-append (replicate often) (range_with_len 0 x) (x ∷ [])
    ∙ ap (λ ys. round x often ++ ys) (append-nil (replicate often x))

-- ---- how many rounds there are, and how long their runs are

pub some_before : (n k v : ℕ) → 0 < n → v < k → n ^ k ≤ WIDTH → n ^ v < 2 ^ 32
some_before n k v some l h = let le : n ^ v ≤ n ^ k = pow-le-pow_right some (omega (arith, l)) in omega (arith, le, h)

pub some_behind : (n k v : ℕ) → 0 < n → v < k → n ^ k ≤ WIDTH → n ^ (k - 1 - v) < 2 ^ 32
some_behind n k v some l h = let le : n ^ (k - 1 - v) ≤ n ^ k = pow-le-pow_right some (omega (arith, l)) in omega (arith, le, h)
