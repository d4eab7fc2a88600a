-- What may be answered when it is asked whether some polynomial agrees with points, with the refusals.
use Rattle.std.specs.Prelude.{◌≡◌, ℕ, ◌+◌, ◌≤◌, List, Some, Result, Ok, Err}
use Rattle.ua_table.specs.Algebras.{FiniteAlgebra, arities_of}
use Rattle.ua_table.specs.Terms.{Tree}
use Rattle.ua_term.specs.Steps.{StepList, WriteTerm, written_term, within}
use Rattle.ua_close.specs.declared.close.CloseError.{CloseError}
use Rattle.ua_close.specs.declared.close.CloseError.TheVariants.{OutOfMemory}
use Rattle.ua_close.specs.declared.memberships.Answer.{Answer}
use Rattle.ua_close.specs.declared.memberships.Answer.TheVariants.{Yes, No, Exceeds}
use Rattle.ua_close.specs.Permitted.{MayMember, IsAnswerable}
use Rattle.ua_clone.specs.declared.kinds.CloneKind.{CloneKind}
use Rattle.ua_clone.specs.declared.polynomials.Poly.{Poly}
use Rattle.ua_clone.specs.Points.{Point}
use Rattle.ua_clone.specs.Polynomials.{named_elements, IsPolynomial, AgreesWith, IsAgreeing, HasPolynomial, polynomial_of, variables_of, IsPoly}
use Rattle.ua_clone.specs.Frames.{point_power, point_generators, wanted_values}

-- steps over the operations of the algebra, the variables and the elements, of which the last writes a polynomial of the kind that agrees with the points
pub record WriteAgreeing (a : FiniteAlgebra) (k : ℕ) (kind : CloneKind) (ps : List Point) (s : StepList) : Type 0 where
  pub operations : s.arities ≡ arities_of a
  pub generators : s.gens ≡ k + named_elements kind a.size
  pub polynomial : Tree
  pub last : WriteTerm s polynomial
  pub is_polynomial : IsPolynomial a k kind polynomial
  pub agrees : AgreesWith a ps polynomial

-- the polynomial, if the last of the steps writes it in at most so many nodes, is one in k variables over the algebra, of the kind, that agrees with the points
abbrev pub AgreesIfWritten : FiniteAlgebra → ℕ → CloneKind → List Point → StepList → ℕ → Poly → Type 0
AgreesIfWritten a k kind ps s limit p = Some (polynomial_of k p) ≡ within limit (written_term s.arities s.items) → variables_of p ≤ k → IsPoly a k p × IsAgreeing a k kind ps (polynomial_of k p)

-- with yes the steps write a polynomial that agrees with the points, and with no none does
abbrev pub TellsPolynomial : FiniteAlgebra → ℕ → CloneKind → List Point → Result Answer CloseError → Type 0
TellsPolynomial a k kind ps (Ok (Yes steps)) = WriteAgreeing a k kind ps steps
TellsPolynomial a k kind ps (Ok (No rows)) = ¬ HasPolynomial a k kind ps
TellsPolynomial a k kind ps (Ok (Exceeds rows)) = Unit {0}
TellsPolynomial a k kind ps (Err error) = Unit {0}

-- what may be answered when it is asked whether the vectors of variables and elements generate that of the values, which is the answer for polynomials
abbrev pub MayClone : FiniteAlgebra → ℕ → CloneKind → List Point → ℕ → ℕ → Result Answer CloseError → Type 0
MayClone a k kind ps b w result = MayMember (point_power a ps) (point_generators a k kind ps) (wanted_values ps) b w result × TellsPolynomial a k kind ps result

-- it can be told otherwise than by want of memory
abbrev pub CanTellPolynomial : FiniteAlgebra → ℕ → CloneKind → List Point → ℕ → ℕ → Type 0
CanTellPolynomial a k kind ps b w = IsAnswerable (MayClone a k kind ps b w) OutOfMemory
