-- Elements that generate each other generate the same, and the values of operations at generated elements are generated.
use Rattle.std.proofs.Common.{◌≡◌, ℕ, zero, suc, ◌<◌, List, [], ◌∷◌, ◌++◌, length, take, get_or, sym, ap, ◌∙◌, subst, arith, Some, ⊎_elim}
use Rattle.std.specs.Prelude.{Contains, slice_get, slice_index, slice_index_or, true, IfOk, Result, Ok, Err, Vec}
use Rattle.std.specs.declared.alloc.Global.{Global}
use Rattle.std.specs.declared.cmp.Ordering.TheVariants.{Less, Equal, Greater}
use Rattle.std.specs.Cmp.{nat_cmp_is}
use Rattle.std.specs.Ordering.{nat_cmp}
use Rattle.std.specs.List.{AllByRecursion, AllZip, HoldsAt}
use Rattle.std.proofs.lemmas.Bool.{cases_lt}
use Rattle.std.proofs.lemmas.List.{length-map}
use Rattle.std.proofs.lemmas.List.Elements.{All-from_recursion, Contains-from_at}
use Rattle.std.specs.List.Sorted.{IsSearchInRange}
use Rattle.std.specs.Result.{is_ok}
use Rattle.ua_table.specs.Algebras.{Vector, FiniteAlgebra, Operation, Product, IsAlgebra, arities, arities_of, value_at, numeral}
use Rattle.ua_table.specs.Counting.{numbers_below}
use Rattle.ua_table.specs.Generated.{Sg}
use Rattle.ua_table.specs.Terms.{Tree, Generator, Application, Trees, none, more, IsTerm, AreTerms, term_value, term_values}
use Rattle.ua_table.proofs.Counts.{length-numbers_below}
use Rattle.ua_table.proofs.GeneratedLaws.{generator_in, result_in, length-term_values}
use Rattle.ua_table.proofs.Lists.{AllZip-length, all_at, all_map, all_take, all_weaker, slice_get-append_left, slice_get-push}
use Rattle.ua_prod.proofs.ClashLaws.{arity_is, size_is, value_is}
use Rattle.ua_sub.specs.Members.{singles, contents, AreMembers}
use Rattle.ua_sub.specs.declared.twins.Question.{Question}
use Rattle.ua_sub.specs.declared.twins.Found.{Found}
use Rattle.ua_sub.specs.inner.Twins.{Generates, IsFound, IsTwin, AreFound, AreOnesBelow}
use Rattle.ua_sub.proofs.MemberLaws.{column_singles}

-- ---- elements that generate each other

-- what generated vectors generate is generated
module _ (p : Product) (gens others : List Vector) (holds : AllByRecursion (Sg p gens) others) where
  mutual
    held : (t : Tree) → IsTerm (arities p) (length others) t → Sg p gens (term_value p others t)
    held (Generator i) h = All-from_recursion (Sg p gens) others holds i [] h
    held (Application f ts) h = result_in p gens f (term_values p others ts) h.0 (length-term_values p others ts ∙ h.1) (all_held ts h.2)

    all_held : (ts : Trees) → AreTerms (arities p) (length others) ts → AllByRecursion (Sg p gens) (term_values p others ts)
    all_held none h = tt
    all_held (more t ts) h = (held t h.0, all_held ts h.1)

  through : (v : Vector) → Sg p others v → Sg p gens v
  through v s = subst (Sg p gens) s.value (held s.term s.is_term)

pub generates_itself : (a : FiniteAlgebra) (x : ℕ) → Generates a x x
generates_itself a x = generator_in (a ∷ []) (singles (x ∷ [])) 0 (omega arith)

pub generates_through : (a : FiniteAlgebra) (x y z : ℕ) → Generates a x y → Generates a y z → Generates a x z
generates_through a x y z g h = through (a ∷ []) (singles (x ∷ [])) (singles (y ∷ [])) (g, tt) (z ∷ []) h

-- where x and y generate each other, the members of y are those of x
pub same_members : (a : FiniteAlgebra) (x y : ℕ) (members : List ℕ) → Generates a x y → Contains members x → AreMembers a (y ∷ []) members → AreMembers a (x ∷ []) members
same_members a x y members g c are = record {
  ascending = are.ascending;
  exact = λ z. (λ in_it. generates_through a x y z g ((are.exact z).0 in_it), λ s. (are.exact z).1 (generates_through a y x z ((are.exact x).0 c) s));
}

-- ---- what is listed

number_at : (n i : ℕ) → i < n → slice_get (numbers_below n) i ≡ Some i
number_at zero i w = absurd (omega (arith, w))
number_at (suc n) i w = ⊎_elim
    (λ less. slice_get-append_left (numbers_below n) (n ∷ []) i (omega (arith, less, length-numbers_below n)) ∙ number_at n i less)
    (λ most. let is : n ≡ i = omega (arith, w, most) in
    subst (λ k. slice_get (numbers_below n ++ n ∷ []) k ≡ Some k) is
    (subst (λ k. slice_get (numbers_below n ++ n ∷ []) k ≡ Some n) (length-numbers_below n) (slice_get-push (numbers_below n) n)))
    (cases_lt i n)

listed_at : (R : ℕ → List ℕ → Type 0) (xs : List ℕ) (ys : List (List ℕ)) (i x : ℕ) → AllZip R xs ys → slice_get xs i ≡ Some x → R x (slice_index_or ys i [])
listed_at R [] ys i x all e = absurd (cc)
listed_at R (u ∷ xs) [] i x all e = absurd all
listed_at R (u ∷ xs) (v ∷ ys) zero x all e = let is : u ≡ x = cc in subst (λ z. R z v) is all.0
listed_at R (u ∷ xs) (v ∷ ys) (suc i) x all e = listed_at R xs ys i x all.1 e

content_at : (lists : List (Vec ℕ Global)) (y : ℕ) (v : Vec ℕ Global) → y < length lists → v ≡ get_or lists y v → slice_index_or (contents lists) y [] ≡ v.items
content_at [] y v w e = absurd (omega (arith, w))
content_at (u ∷ us) zero v w e = ap (λ (z : Vec ℕ Global). z.items) (sym e)
content_at (u ∷ us) (suc y) v w e = content_at us y v (omega (arith, w)) e

-- the list of an element that generates the same
pub twin_members : (question : Question) (y : ℕ) (v : Vec ℕ Global) → AreOnesBelow question.algebra.now question.element (contents question.lists.now)
    → IsTwin question y → v ≡ get_or question.lists.now y v → AreMembers question.algebra.now (question.element ∷ []) v.items
twin_members question y v all twin e =
    let a = question.algebra.now in
    let x = question.element in
    let lists = question.lists.now in
    let w = twin.listed in
    let count = AllZip-length (λ z members. AreMembers a (z ∷ []) members) (numbers_below x) (contents lists) all in
    let size = length-map lists (λ (z : Vec ℕ Global). z.items) in
    let below : y < x = omega (arith, w, count, size, length-numbers_below x) in
    let here = listed_at (λ z members. AreMembers a (z ∷ []) members) (numbers_below x) (contents lists) y y all (number_at x y below) in
    subst (AreMembers a (x ∷ [])) (content_at lists y v w e) (same_members a x y (slice_index_or (contents lists) y []) twin.generated twin.generates here)

-- ---- values

-- the value of an operation at generated elements
pub value_generated : (a : FiniteAlgebra) (x f : ℕ) (o : Operation) (args : List ℕ) → IsAlgebra a → slice_get a.operations f ≡ Some o
    → f < length (arities_of a) → length args ≡ o.arity → AllByRecursion (Generates a x) args
    → Generates a x (slice_index o.values (numeral o.size args))
value_generated a x f o args alg stands w count all =
    let gens = singles (x ∷ []) in
    let is : value_at a f args ≡ slice_index o.values (numeral o.size args) = value_is a f o stands args ∙ ap (λ n. slice_index o.values (numeral n args)) (sym (size_is a f o alg stands)) in
    subst (Generates a x) is
    (subst (λ (xs : List ℕ). Sg (a ∷ []) gens (value_at a f xs ∷ [])) (column_singles args)
    (result_in (a ∷ []) gens f (singles args) w (length-map args (λ y. y ∷ []) ∙ count ∙ sym (arity_is a f o stands)) (all_map (Sg (a ∷ []) gens) (λ y. y ∷ []) args all)))

-- ---- what is found

less_equal : Less ≡ Equal → ⊥
less_equal e = cc

greater_equal : Greater ≡ Equal → ⊥
greater_equal e = cc

equal_from : (x y : ℕ) → nat_cmp x y ≡ Equal → x ≡ y
equal_from x y e = ⊎_elim
    (λ less. absurd (less_equal (nat_cmp_is x y Less less ∙ e)))
    (λ low. ⊎_elim (λ more. absurd (greater_equal (nat_cmp_is x y Greater more ∙ e))) (λ high. let same : x ≡ y = omega (arith, low, high) in same) (cases_lt y x))
    (cases_lt x y)

-- a list in which the element is found
pub listed_has : (lists : List (Vec ℕ Global)) (y x : ℕ) (v : Vec ℕ Global) (members : List ℕ) (r : Result ℕ ℕ) → y < length lists
    → v ≡ get_or lists y v → members ≡ (get_or lists y v).items → IsSearchInRange r (length members)
    → IfOk r (HoldsAt (λ z. nat_cmp z x ≡ Equal) members) → is_ok r ≡ true → Contains (slice_index_or (contents lists) y []) x
listed_has lists y x v members (Ok k) w e same range equal t =
    subst (λ (ms : List ℕ). Contains ms x) (same ∙ ap (λ (u : Vec ℕ Global). u.items) (sym e) ∙ sym (content_at lists y v w e)) (Contains-from_at members x (k, range, λ d. equal_from (slice_index_or members k d) x (equal d)))
listed_has lists y x v members (Err k) w e same range equal t = absurd (cc)

-- members are found
pub all_found : (question : Question) (found : Found) (args : List ℕ) (n : ℕ) → AreFound question found → AllByRecursion (Contains found.members.items) args → AllByRecursion (IsFound question) (take n args)
all_found question found args n h all = all_take (IsFound question) n args (all_weaker (Contains found.members.items) (IsFound question) (λ y c. all_at (IsFound question) found.members.items y h.members c) args all)
