-- The values of steps at an assignment.
use Rattle.std.proofs.Common.{◌≡◌, ℕ, ◌+◌, ◌-◌, ◌<◌, ◌≤◌, Some, List, [], ◌∷◌, ◌++◌, length, map, take, set, get_or, refl, sym, ap, subst, ◌∙◌, arith}
use Rattle.std.specs.Prelude.{slice_index, slice_get}
use Rattle.std.specs.List.{AllByRecursion}
use Rattle.std.proofs.lemmas.List.{map-append, get_or-map, get_or-take, take_all, take_more_set, length-take-le, take_more}
use Rattle.std.proofs.lemmas.List.Elements.{All-from_recursion}
use Rattle.ua_table.specs.declared.origins.Origin.{Origin}
use Rattle.ua_table.specs.declared.origins.Origin.TheVariants.{Gen, Op}
use Rattle.ua_table.specs.Algebras.{Operation, FiniteAlgebra, arities_of, numeral, value_at}
use Rattle.ua_table.specs.Tables.{IsAlgebraTable}
use Rattle.ua_table.specs.Terms.{Tree, Generator, eval, eval_all}
use Rattle.ua_table.specs.Origins.{IsOrigin}
use Rattle.ua_table.proofs.Lists.{all_push}
use Rattle.ua_term.specs.Steps.{AreSteps, terms_at, term_after, unfolded, written_term}
use Rattle.ua_term.proofs.StepLaws.{step_at, unfolded_more, length_from}
use Rattle.ua_term.proofs.TreeLaws.{operation_facts}
use Rattle.ua_check.specs.inner.Equations.{element_of}

-- ---- their values

module _ (a : FiniteAlgebra) (xs : List ℕ) where
  elements_at : (ts : List Tree) (args : List ℕ) → AllByRecursion (λ x. x < length ts) args → map (slice_index (map (eval a xs) ts)) args ≡ eval_all a xs (terms_at ts args)
  elements_at ts [] h = refl
  elements_at ts (x ∷ args) h =
      ap (λ z. z ∷ map (slice_index (map (eval a xs) ts)) args) (get_or-map (eval a xs) ts x (Generator 0) 0 h.0)
      ∙ ap (λ z. eval a xs (get_or ts x (Generator 0)) ∷ z) (elements_at ts args h.1)

  element_after : (gens n : ℕ) (ts : List Tree) (o : Origin) → n ≡ length ts → IsOrigin (arities_of a) gens n o → element_of a xs (map (eval a xs) ts) o ≡ eval a xs (term_after (arities_of a) ts o)
  element_after gens n ts (Gen i) e h = refl
  element_after gens n ts (Op f args) e h =
      ap (value_at a f) (elements_at ts (take (slice_index (arities_of a) f) args) (subst (λ m. AllByRecursion (λ x. x < m) (take (slice_index (arities_of a) f) args)) e h.earlier))

  -- the values of the first steps
  abbrev pub Valued : List Origin → ℕ → List ℕ → Type 0
  Valued steps i values = take i values ≡ map (eval a xs) (unfolded (arities_of a) (take i steps))

  pub value_more : (gens : ℕ) (steps : List Origin) (i : ℕ) (o : Origin) (values : List ℕ) (v : ℕ) → AreSteps (arities_of a) gens steps
      → i < length steps → o ≡ get_or steps i o → i < length values → Valued steps i values → v ≡ element_of a xs (take i values) o
      → Valued steps (i + 1) (set values i v)
  value_more gens steps i o values v are l at room known e =
      let ks = arities_of a in
      let ts = unfolded ks (take i steps) in
      let count : i ≡ length ts = (let m = length_from ks [] (take i steps) in let k = length-take-le i steps (omega (arith, l)) in omega (arith, m, k)) in
      let one : IsOrigin ks gens i o = subst (IsOrigin ks gens i) (sym at) (step_at ks gens steps i o are l) in
      let v_is : v ≡ eval a xs (term_after ks ts o) = e ∙ ap (λ vs. element_of a xs vs o) known ∙ element_after gens i ts o count one in
      let steps_more : take (i + 1) steps ≡ take i steps ++ o ∷ [] = take_more steps i o l ∙ ap (λ (w : Origin). take i steps ++ w ∷ []) (sym at) in
      take_more_set values i v room
      ∙ ap (λ vs. vs ++ v ∷ []) known
      ∙ ap (λ w. map (eval a xs) ts ++ w ∷ []) v_is
      ∙ sym (ap (λ (os : List Origin). map (eval a xs) (unfolded ks os)) steps_more ∙ ap (map (eval a xs)) (unfolded_more ks [] (take i steps) o) ∙ map-append (eval a xs) ts (term_after ks ts o ∷ []))

  -- the last value is that of the term that the steps write
  pub value_last : (steps : List Origin) (n : ℕ) (values : List ℕ) → 0 < length steps → length steps ≡ n → take n steps ≡ steps → Valued steps n values → get_or values (n - 1) 0 ≡ eval a xs (written_term (arities_of a) steps)
  value_last steps n values some e whole known =
      let ks = arities_of a in
      let count = length_from ks [] steps in
      sym (get_or-take n values (n - 1) 0 (omega (arith, some, e)))
      ∙ ap (λ vs. get_or vs (n - 1) 0) (known ∙ ap (λ (os : List Origin). map (eval a xs) (unfolded ks os)) whole)
      ∙ ap (λ m. get_or (map (eval a xs) (unfolded ks steps)) (m - 1) 0) (sym e)
      ∙ get_or-map (eval a xs) (unfolded ks steps) (length steps - 1) (Generator 0) 0 (omega (arith, some, count))

-- what stands in front of some entries after the last argument
whole : (values args entries : List ℕ) (j : ℕ) → j ≤ length args → length args ≤ j → take j entries ≡ map (slice_index values) (take j args) → take (length args) entries ≡ map (slice_index values) args
whole values args entries j l m e = let at : length args ≡ j = omega (arith, l, m) in ap (λ n. take n entries) at ∙ e ∙ ap (map (slice_index values)) (take_all j args m)

pub entries_below : (n : ℕ) (values args entries : List ℕ) (j : ℕ) → j ≤ length args → length args ≤ j
    → take j entries ≡ map (slice_index values) (take j args) → AllByRecursion (λ x. x < length values) args → AllByRecursion (λ x. x < n) values
    → AllByRecursion (λ x. x < n) (take (length args) entries)
entries_below n values args entries j l m e named h = subst (AllByRecursion (λ x. x < n)) (sym (whole values args entries j l m e)) (each args named)
  where
    each : (xs : List ℕ) → AllByRecursion (λ x. x < length values) xs → AllByRecursion (λ x. x < n) (map (slice_index values) xs)
    each [] k = tt
    each (x ∷ xs) k = (All-from_recursion (λ y. y < n) values h x 0 k.0, each xs k.1)

pub operation_value : (a : FiniteAlgebra) (f : ℕ) (o : Operation) (values args entries : List ℕ) (j : ℕ) → IsAlgebraTable a
    → slice_get a.operations f ≡ Some o → j ≤ length args → length args ≤ j → take j entries ≡ map (slice_index values) (take j args)
    → slice_index o.values (numeral o.size (take (length args) entries)) ≡ value_at a f (map (slice_index values) args)
operation_value a f o values args entries j h g l m e =
    let facts = operation_facts a f o h g in
    ap (λ n. slice_index o.values (numeral n (take (length args) entries))) facts.size
    ∙ ap (λ (table : List ℕ). slice_index table (numeral a.size (take (length args) entries))) (sym facts.values)
    ∙ ap (value_at a f) (whole values args entries j l m e)

-- elements, one more
pub below_more : (n : ℕ) (values : List ℕ) (i v : ℕ) → i < length values → AllByRecursion (λ x. x < n) (take i values) → v < n → AllByRecursion (λ x. x < n) (take (i + 1) (set values i v))
below_more n values i v room h l = subst (AllByRecursion (λ x. x < n)) (sym (take_more_set values i v room)) (all_push (λ x. x < n) (take i values) v h l)
