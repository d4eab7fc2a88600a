-- Polynomials of an algebra: terms in variables and in the elements.
use Rattle.std.specs.Prelude.{◌≡◌, ℕ, suc, ◌+◌, ◌≤◌, List, ◌++◌}
use Rattle.std.specs.List.{AllByRecursion, range_with_len}
use Rattle.ua_table.specs.Algebras.{FiniteAlgebra, arities_of}
use Rattle.ua_table.specs.Numbering.{greatest}
use Rattle.ua_table.specs.Terms.{Tree, Generator, Application, IsTerm, eval}
use Rattle.ua_term.specs.Trees.{trees}
use Rattle.ua_clone.specs.declared.kinds.CloneKind.{CloneKind}
use Rattle.ua_clone.specs.declared.kinds.CloneKind.TheVariants.{TermOps, Polynomials}
use Rattle.ua_clone.specs.declared.polynomials.Poly.{Poly}
use Rattle.ua_clone.specs.declared.polynomials.Poly.TheOpen.{Poly-F, Var, Const, Op}
use Rattle.ua_clone.specs.declared.polynomials.Poly.TheFolds.{fold-Poly}
use Rattle.ua_clone.specs.Points.{Point}

-- how many of n elements may stand in a polynomial of the kind: in a term none
abbrev pub named_elements : CloneKind → ℕ → ℕ
named_elements TermOps n = 0
named_elements Polynomials n = n

-- a polynomial in k variables is a term whose generator i below k is variable i, and whose generator k + c is the element c; of the first kind it is a term in the variables alone
abbrev pub IsPolynomial : FiniteAlgebra → ℕ → CloneKind → Tree → Type 0
IsPolynomial a k kind t = IsTerm (arities_of a) (k + named_elements kind a.size) t

-- its value where these elements are the variables
abbrev pub polynomial_value : FiniteAlgebra → List ℕ → Tree → ℕ
polynomial_value a xs t = eval a (xs ++ range_with_len 0 a.size) t

-- at each point's arguments its value is that of the point
abbrev pub AgreesWith : FiniteAlgebra → List Point → Tree → Type 0
AgreesWith a ps t = AllByRecursion (λ (p : Point). polynomial_value a p.arguments t ≡ p.value) ps

-- a polynomial of the kind that agrees with the points
abbrev pub IsAgreeing : FiniteAlgebra → ℕ → CloneKind → List Point → Tree → Type 0
IsAgreeing a k kind ps t = IsPolynomial a k kind t × AgreesWith a ps t

-- some polynomial of the kind agrees with the points
pub record HasPolynomial (a : FiniteAlgebra) (k : ℕ) (kind : CloneKind) (ps : List Point) : Type 0 where
  pub polynomial : Tree
  pub is_polynomial : IsPolynomial a k kind polynomial
  pub agrees : AgreesWith a ps polynomial

-- ---- the polynomials that values of the program are

-- one polynomial in k variables, with those of its arguments in their places
abbrev pub polynomial_step : ℕ → Poly-F Tree → Tree
polynomial_step k (Var i) = Generator i
polynomial_step k (Const c) = Generator (k + c)
polynomial_step k (Op f arguments) = Application f (trees arguments.items)

abbrev pub polynomial_of : ℕ → Poly → Tree
polynomial_of k = fold-Poly Tree (polynomial_step k)

-- one more than the greatest variable, or 0, by those of the arguments
abbrev pub variables_step : Poly-F ℕ → ℕ
variables_step (Var i) = suc i
variables_step (Const c) = 0
variables_step (Op f arguments) = greatest arguments.items

abbrev pub variables_of : Poly → ℕ
variables_of = fold-Poly ℕ variables_step

-- a polynomial in k variables over the algebra
pub record IsPoly (a : FiniteAlgebra) (k : ℕ) (p : Poly) : Type 0 where
  pub variables : variables_of p ≤ k
  pub polynomial : IsPolynomial a k Polynomials (polynomial_of k p)
