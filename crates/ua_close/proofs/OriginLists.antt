-- All origins over so many rows, and the origin of a result at some of them.
use Rattle.std.proofs.Common.{◌≡◌, ℕ, zero, suc, ◌+◌, ◌-◌, ◌<◌, List, [], ◌∷◌, ◌++◌, length, map, take, replicate, sym, ap, ◌∙◌, subst, arith, ⊎_elim}
use Rattle.std.specs.Prelude.{Contains, slice_index}
use Rattle.std.specs.List.{AllByRecursion, range_with_len, flat_map}
use Rattle.std.proofs.lemmas.List.{length-replicate, take-append-drop, take_at, drop_at}
use Rattle.std.proofs.lemmas.List.Elements.{Contains-append_left, Contains-append_right, Contains-append_cases}
use Rattle.std.proofs.lemmas.List.FromFn.{get_or-range_with_len, length-range_with_len}
use Rattle.ua_table.specs.declared.origins.Origin.{Origin}
use Rattle.ua_table.specs.declared.origins.Origin.TheVariants.{Gen, Op}
use Rattle.ua_table.specs.Algebras.{Vector, Product, arities, apply}
use Rattle.ua_table.specs.Numbering.{choices}
use Rattle.ua_table.specs.Origins.{IsOrigin, IsApplication, origin_value}
use Rattle.ua_table.proofs.Choices.{IsChoice, chosen, choice_from, range_low}
use Rattle.ua_table.proofs.Lists.{Contains-map, Contains-map_from, Contains-flat_map, Contains-flat_map_from, AllZip-length}
use Rattle.ua_rows.specs.RowLists.{rows_at}
use Rattle.ua_core.proofs.StillStates.{placed}

-- ---- all origins over n rows

abbrev pub below : ℕ → List ℕ
below n = range_with_len 0 n

-- the arguments, and 0 at the other places
abbrev pub application : List ℕ → ℕ → List ℕ → Origin
application ks f args = Op f (args ++ replicate (4 - slice_index ks f) 0)

abbrev pub applications : List ℕ → ℕ → ℕ → List Origin
applications ks n f = map (application ks f) (choices (replicate (slice_index ks f) (below n)))

abbrev pub all_origins : List ℕ → ℕ → ℕ → List Origin
all_origins ks gens n = map (λ i. Gen i) (below gens) ++ flat_map (applications ks n) (below (length ks))

pub in_below : (n x : ℕ) → x < n → Contains (below n) x
in_below n x h = (x, omega (arith, h, length-range_with_len 0 n), (let e : 0 + x ≡ x = omega arith in get_or-range_with_len 0 n x x h ∙ e))

low_choice : (n : ℕ) (xs : List ℕ) → AllByRecursion (λ x. x < n) xs → IsChoice (replicate (length xs) (below n)) xs
low_choice n [] h = tt
low_choice n (x ∷ xs) h = (in_below n x h.0, low_choice n xs h.1)

low_from : (n k : ℕ) (xs : List ℕ) → IsChoice (replicate k (below n)) xs → AllByRecursion (λ x. x < n) xs
low_from n zero [] h = tt
low_from n zero (x ∷ xs) h = absurd h
low_from n (suc k) [] h = absurd h
low_from n (suc k) (x ∷ xs) h = let r = range_low 0 n x h.0 in (omega (arith, r.1), low_from n k xs h.1)

-- an operation at rows is an origin, and these are its arguments
pub record IsApplied (ks : List ℕ) (n f : ℕ) (args : List ℕ) : Type 0 where
  pub valid : IsApplication ks n f (args ++ replicate (4 - slice_index ks f) 0)
  pub arguments : take (slice_index ks f) (args ++ replicate (4 - slice_index ks f) 0) ≡ args

pub is_application : (ks : List ℕ) (n f : ℕ) (args : List ℕ) → f < length ks → length args ≡ slice_index ks f → AllByRecursion (λ a. a < n) args → IsApplied ks n f args
is_application ks n f args low count earlier =
    let zeros = replicate (4 - slice_index ks f) 0 in
    let front : take (slice_index ks f) (args ++ zeros) ≡ args = take_at args zeros (slice_index ks f) count in
    record {
      valid = record {
        operation = low;
        count = ap (length {A = ℕ}) front ∙ count;
        earlier = subst (AllByRecursion (λ a. a < n)) (sym front) earlier;
        unused = drop_at args zeros (slice_index ks f) count;
      };
      arguments = front;
    }

module _ (ks : List ℕ) (gens n : ℕ) where
  -- each origin is one of them
  pub all_of_them : (o : Origin) → IsOrigin ks gens n o → Contains (all_origins ks gens n) o
  all_of_them (Gen i) h = Contains-append_left (map (λ j. Gen j) (below gens)) (flat_map (applications ks n) (below (length ks))) (Gen i) (Contains-map (λ j. Gen j) i (below gens) (in_below gens i h))
  all_of_them (Op f args) h =
      let k = slice_index ks f in
      let front = take k args in
      let choice : IsChoice (replicate k (below n)) front = subst (λ m. IsChoice (replicate m (below n)) front) h.count (low_choice n front h.earlier) in
      let same_args : front ++ replicate (4 - k) 0 ≡ args = ap (λ rest. front ++ rest) (sym h.unused) ∙ take-append-drop k args in
      let among = Contains-map (application ks f) front (choices (replicate k (below n))) (chosen (replicate k (below n)) front choice) in
      let here : Contains (applications ks n f) (Op f args) = subst (λ xs. Contains (applications ks n f) (Op f xs)) same_args among in
      Contains-append_right (map (λ j. Gen j) (below gens)) (flat_map (applications ks n) (below (length ks))) (Op f args) (Contains-flat_map (applications ks n) f (Op f args) (below (length ks)) (in_below (length ks) f h.operation) here)

  -- and each of them is an origin
  an_application : (f : ℕ) (o : Origin) → f < length ks → Contains (applications ks n f) o → IsOrigin ks gens n o
  an_application f o h c =
      let k = slice_index ks f in
      let m = Contains-map_from (application ks f) o (choices (replicate k (below n))) c in
      let xs = m.0 in
      let choice = choice_from (replicate k (below n)) xs m.1 in
      let count : length xs ≡ k = sym (AllZip-length (λ (ys : List ℕ) x. Contains ys x) (replicate k (below n)) xs choice) ∙ length-replicate k (below n) in
      subst (IsOrigin ks gens n) m.2 (is_application ks n f xs h count (low_from n k xs choice)).valid

  pub only_origins : (o : Origin) → Contains (all_origins ks gens n) o → IsOrigin ks gens n o
  only_origins o c = ⊎_elim
      (λ l. let m = Contains-map_from (λ j. Gen j) o (below gens) l in let low = range_low 0 gens m.0 m.1 in subst (IsOrigin ks gens n) m.2 (let h : m.0 < gens = omega (arith, low.1) in h))
      (λ r. let m = Contains-flat_map_from (applications ks n) o (below (length ks)) r in let low = range_low 0 (length ks) m.0 m.1 in an_application m.0 o (omega (arith, low.1)) m.2)
      (Contains-append_cases (map (λ j. Gen j) (below gens)) (flat_map (applications ks n) (below (length ks))) o c)

-- ---- the result of an operation at rows

-- an origin over the rows gives it
pub record HasOrigin (p : Product) (gens rows : List Vector) (v : Vector) : Type 0 where
  pub origin : Origin
  pub valid : IsOrigin (arities p) (length gens) (length rows) origin
  pub value : origin_value p gens rows origin ≡ v

pub result_origin : (p : Product) (gens rows : List Vector) (f : ℕ) (args : List Vector) → f < length (arities p) → length args ≡ slice_index (arities p) f → AllByRecursion (Contains rows) args → HasOrigin p gens rows (apply p f args)
result_origin p gens rows f args h count held =
    let q = placed rows args held in
    let is = is_application (arities p) (length rows) f q.places h (q.count ∙ count) q.below in
    record { origin = application (arities p) f q.places; valid = is.valid; value = ap (λ (places : List ℕ). apply p f (rows_at rows places)) is.arguments ∙ ap (apply p f) q.rows_are }
