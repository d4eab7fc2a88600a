-- Polynomials of the program as trees.
use Rattle.std.proofs.Common.{◌≡◌, ℕ, zero, suc, ◌+◌, ◌<◌, ◌≤◌, List, [], ◌∷◌, ◌++◌, length, map, get_or, slice_get, slice_index, Some, refl, sym, ap, ◌∙◌, subst, arith}
use Rattle.std.specs.List.{AllByRecursion, range_with_len}
use Rattle.std.proofs.lemmas.List.{get_or-map, get_or_append_left, get_or-append-add, length-append, length-map}
use Rattle.std.proofs.lemmas.List.Elements.{All-from_recursion}
use Rattle.std.proofs.lemmas.List.FromFn.{get_or-range_with_len, length-range_with_len}
use Rattle.std.proofs.lemmas.Simd.{map-map}
use Rattle.ua_table.specs.Algebras.{Operation, FiniteAlgebra, IsAlgebra, arities_of, numeral, value_at}
use Rattle.ua_table.specs.Numbering.{greatest}
use Rattle.ua_table.specs.Tables.{IsAlgebraTable}
use Rattle.ua_table.specs.Terms.{Tree, Generator, Application, count_of, IsTerm, AreTerms, eval, eval_all}
use Rattle.ua_table.proofs.Choices.{greatest_low, greatest_tops, range_low}
use Rattle.ua_table.proofs.Lists.{all_append, all_at, all_from_contains, all_map}
use Rattle.ua_term.specs.Trees.{trees, node_count, nodes_of}
use Rattle.ua_term.proofs.TreeLaws.{operation_facts, all_below}
use Rattle.ua_clone.specs.declared.kinds.CloneKind.TheVariants.{Polynomials}
use Rattle.ua_clone.specs.declared.polynomials.Poly.{Poly}
use Rattle.ua_clone.specs.declared.polynomials.Poly.TheOpen as layers
use Rattle.ua_clone.specs.declared.polynomials.Poly.TheViews.{Op, rolls-Op}
use Rattle.ua_clone.specs.declared.polynomials.Poly.TheVariants.{Var, rolls-Var, Const, rolls-Const}
use Rattle.ua_clone.specs.declared.polynomials.Poly.TheFolds.{fold-roll-Poly}
use Rattle.ua_clone.specs.Polynomials.{IsPolynomial, polynomial_value, polynomial_step, polynomial_of, variables_step, variables_of, IsPoly}

-- ---- terms in a list

trees_count : (ts : List Tree) → count_of (trees ts) ≡ length ts
trees_count [] = refl
trees_count (t ∷ ts) = ap suc (trees_count ts)

trees_each : (ks : List ℕ) (g : ℕ) (ts : List Tree) → AreTerms ks g (trees ts) → AllByRecursion (IsTerm ks g) ts
trees_each ks g [] h = tt
trees_each ks g (t ∷ ts) h = (h.0, trees_each ks g ts h.1)

trees_values : (a : FiniteAlgebra) (xs : List ℕ) (ts : List Tree) → eval_all a xs (trees ts) ≡ map (eval a xs) ts
trees_values a xs [] = refl
trees_values a xs (t ∷ ts) = ap (λ z. eval a xs t ∷ z) (trees_values a xs ts)

-- ---- the trees of polynomials

pub op_poly : (k f : ℕ) (v : _) → polynomial_of k (Op f v) ≡ Application f (trees (map (polynomial_of k) v.items))
unfolding Rattle.ua_clone.specs.declared.polynomials.Poly.TheViews.roll-Poly denote.Hole.Carrier.roll
op_poly k f v = ap (polynomial_of k) (rolls-Op f v) ∙ fold-roll-Poly Tree (polynomial_step k) (layers.Op f v)

pub var_poly : (k i : ℕ) → polynomial_of k (Var i) ≡ Generator i
unfolding Rattle.ua_clone.specs.declared.polynomials.Poly.TheViews.roll-Poly denote.Hole.Carrier.roll
var_poly k i = ap (polynomial_of k) (rolls-Var i) ∙ fold-roll-Poly Tree (polynomial_step k) (layers.Var i)

pub const_poly : (k c : ℕ) → polynomial_of k (Const c) ≡ Generator (k + c)
unfolding Rattle.ua_clone.specs.declared.polynomials.Poly.TheViews.roll-Poly denote.Hole.Carrier.roll
const_poly k c = ap (polynomial_of k) (rolls-Const c) ∙ fold-roll-Poly Tree (polynomial_step k) (layers.Const c)

-- ---- their variables

pub op_variables : (f : ℕ) (v : _) → variables_of (Op f v) ≡ greatest (map variables_of v.items)
unfolding Rattle.ua_clone.specs.declared.polynomials.Poly.TheViews.roll-Poly denote.Hole.Carrier.roll
op_variables f v = ap variables_of (rolls-Op f v) ∙ fold-roll-Poly ℕ variables_step (layers.Op f v)

pub var_variables : (i : ℕ) → variables_of (Var i) ≡ suc i
unfolding Rattle.ua_clone.specs.declared.polynomials.Poly.TheViews.roll-Poly denote.Hole.Carrier.roll
var_variables i = ap variables_of (rolls-Var i) ∙ fold-roll-Poly ℕ variables_step (layers.Var i)

pub const_variables : (c : ℕ) → variables_of (Const c) ≡ 0
unfolding Rattle.ua_clone.specs.declared.polynomials.Poly.TheViews.roll-Poly denote.Hole.Carrier.roll
const_variables c = ap variables_of (rolls-Const c) ∙ fold-roll-Poly ℕ variables_step (layers.Const c)

-- polynomials in at most k variables have at most k together
pub greatest_most : (k : ℕ) (ps : List Poly) → AllByRecursion (λ (p : Poly). variables_of p ≤ k) ps → greatest (map variables_of ps) ≤ k
greatest_most k [] h = omega arith
greatest_most k (p ∷ ps) h =
    all_at (λ y. y ≤ k) (map variables_of (p ∷ ps)) (greatest (map variables_of (p ∷ ps))) (all_map (λ y. y ≤ k) variables_of (p ∷ ps) h) (greatest_tops (map variables_of (p ∷ ps)) (omega arith)).here

-- ---- an operation with its arguments

-- a polynomial that applies operation f to these
pub record AppliesTo (a : FiniteAlgebra) (k f : ℕ) (ps : List Poly) : Type 0 where
  pub operation : f < length (arities_of a)
  pub count : length ps ≡ slice_index (arities_of a) f
  pub each : (i : ℕ) (d : Poly) → i < length ps → IsPoly a k (get_or ps i d)
  pub terms : AreTerms (arities_of a) (k + a.size) (trees (map (polynomial_of k) ps))

pub applies : (a : FiniteAlgebra) (k : ℕ) (p : Poly) (f : ℕ) (v : _) → p ≡ Op f v → IsPoly a k p → AppliesTo a k f v.items
applies a k p f v e h =
    let is : IsPolynomial a k Polynomials (Application f (trees (map (polynomial_of k) v.items))) = subst (IsPolynomial a k Polynomials) (ap (polynomial_of k) e ∙ op_poly k f v) h.polynomial in
    let most : variables_of p ≡ greatest (map variables_of v.items) = ap variables_of e ∙ op_variables f v in
    let named = h.variables in
    record {
      operation = is.0;
      count = sym (length-map v.items (polynomial_of k)) ∙ sym (trees_count (map (polynomial_of k) v.items)) ∙ is.1;
      each = λ i d l.
          let here = get_or-map variables_of v.items i d 0 l in
          let long = length-map v.items variables_of in
          let low = All-from_recursion (λ x. x ≤ greatest (map variables_of v.items)) (map variables_of v.items) (greatest_low (map variables_of v.items)) i 0 (omega (arith, l, long)) in
          let tree = get_or-map (polynomial_of k) v.items i d (Generator 0) l in
          let trees_long = length-map v.items (polynomial_of k) in
          record {
            variables = omega (arith, here, low, most, named);
            polynomial =
                subst (IsPolynomial a k Polynomials) tree
                (All-from_recursion (IsPolynomial a k Polynomials) (map (polynomial_of k) v.items)
                (trees_each (arities_of a) (k + a.size) (map (polynomial_of k) v.items) is.2) i (Generator 0) (omega (arith, l, trees_long)));
          };
      terms = is.2;
    }

-- an argument has fewer nodes
pub fewer_nodes : (k : ℕ) (p : Poly) (f : ℕ) (v : _) (i : ℕ) (x : Poly) → p ≡ Op f v → i < length v.items → x ≡ get_or v.items i x → node_count (polynomial_of k x) < node_count (polynomial_of k p)
fewer_nodes k p f v i x e l g =
    let n : node_count (polynomial_of k p) ≡ suc (nodes_of (trees (map (polynomial_of k) v.items))) = ap node_count (ap (polynomial_of k) e ∙ op_poly k f v) in
    let m = among v.items i x l in
    let same : node_count (polynomial_of k x) ≡ node_count (polynomial_of k (get_or v.items i x)) = ap (λ (y : Poly). node_count (polynomial_of k y)) g in
    omega (arith, n, m, same)
  where
    among : (ps : List Poly) (i : ℕ) (d : Poly) → i < length ps → node_count (polynomial_of k (get_or ps i d)) ≤ nodes_of (trees (map (polynomial_of k) ps))
    among [] i d l = absurd (omega (arith, l))
    among (p ∷ ps) zero d l = omega arith
    among (p ∷ ps) (suc i) d l = let r = among ps i d (omega (arith, l)) in omega (arith, r)

-- the values of the arguments
poly_values : (a : FiniteAlgebra) (xs : List ℕ) (k : ℕ) (ps : List Poly) → eval_all a xs (trees (map (polynomial_of k) ps)) ≡ map (λ (p : Poly). eval a xs (polynomial_of k p)) ps
poly_values a xs k ps = trees_values a xs (map (polynomial_of k) ps) ∙ map-map (eval a xs) (polynomial_of k) ps

-- the value where an operation is applied
pub applied_value : (a : FiniteAlgebra) (xs : List ℕ) (k : ℕ) (p : Poly) (f : ℕ) (o : Operation) (v : _) (values : List ℕ) → p ≡ Op f v
    → IsAlgebraTable a → slice_get a.operations f ≡ Some o → values ≡ map (λ (q : Poly). eval a xs (polynomial_of k q)) v.items
    → slice_index o.values (numeral o.size values) ≡ eval a xs (polynomial_of k p)
applied_value a xs k p f o v values e h g same =
    let facts = operation_facts a f o h g in
    ap (λ n. slice_index o.values (numeral n values)) facts.size ∙ ap (λ (table : List ℕ). slice_index table (numeral a.size values)) (sym facts.values)
    ∙ ap (λ zs. value_at a f zs) (same ∙ sym (poly_values a xs k v.items)) ∙ ap (λ t. eval a xs t) (sym (ap (polynomial_of k) e ∙ op_poly k f v))

-- ---- at elements as the variables

module _ (a : FiniteAlgebra) (args : List ℕ) where
  -- what stands for the generators
  abbrev all : List ℕ
  all = args ++ range_with_len 0 a.size

  all_long : length all ≡ length args + a.size
  all_long = length-append args (range_with_len 0 a.size) ∙ ap (λ n. length args + n) (length-range_with_len 0 a.size)

  pub values_below : (ps : List Poly) → IsAlgebra a → AllByRecursion (λ x. x < a.size) args
      → AreTerms (arities_of a) (length args + a.size) (trees (map (polynomial_of (length args)) ps))
      → AllByRecursion (λ x. x < a.size) (map (λ (p : Poly). polynomial_value a args (polynomial_of (length args) p)) ps)
  values_below ps h below terms =
      let ts = trees (map (polynomial_of (length args)) ps) in
      let elements : AllByRecursion (λ x. x < a.size) (range_with_len 0 a.size) = all_from_contains (λ x. x < a.size) (range_with_len 0 a.size) (λ x c. let low = (range_low 0 a.size x c).1 in omega (arith, low)) in
      subst (AllByRecursion (λ x. x < a.size)) (poly_values a all (length args) ps)
      (all_below a all ts h (all_append (λ x. x < a.size) args (range_with_len 0 a.size) below elements) (subst (λ n. AreTerms (arities_of a) n ts) (sym all_long) terms))

  -- a variable has its element as its value, and an element itself
  pub variable_value : (p : Poly) (i : ℕ) → p ≡ Var i → i < length args → slice_index args i ≡ polynomial_value a args (polynomial_of (length args) p)
  variable_value p i e low = sym (get_or_append_left args (range_with_len 0 a.size) 0 i low) ∙ ap (λ t. eval a all t) (sym (ap (polynomial_of (length args)) e ∙ var_poly (length args) i))

  pub element_value : (p : Poly) (c : ℕ) → p ≡ Const c → c < a.size → c ≡ polynomial_value a args (polynomial_of (length args) p)
  element_value p c e low =
      let here : c ≡ 0 + c = omega arith in
      here ∙ sym (get_or-range_with_len 0 a.size c 0 low) ∙ sym (get_or-append-add args (range_with_len 0 a.size) c 0)
      ∙ ap (λ t. eval a all t) (sym (ap (polynomial_of (length args)) e ∙ const_poly (length args) c))

pub variable_low : (a : FiniteAlgebra) (k : ℕ) (p : Poly) (i : ℕ) → p ≡ Var i → IsPoly a k p → i < k
variable_low a k p i e h = let one : variables_of p ≡ suc i = ap variables_of e ∙ var_variables i in let low = h.variables in omega (arith, one, low)

pub element_low : (a : FiniteAlgebra) (k : ℕ) (p : Poly) (c : ℕ) → p ≡ Const c → IsPoly a k p → c < a.size
element_low a k p c e h = let low : k + c < k + a.size = subst (IsPolynomial a k Polynomials) (ap (polynomial_of k) e ∙ const_poly k c) h.polynomial in omega (arith, low)
