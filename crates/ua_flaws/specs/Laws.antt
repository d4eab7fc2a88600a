-- What holds of steps and of rows without a flaw, and which of them, and which certificates, have none.
use Rattle.std.specs.Prelude.{◌≡◌, ℕ, ◌-◌, ◌<◌, Option, Some, None, List, length, slice_get, Contains}
use Rattle.ua_table.specs.declared.origins.Origin.{Origin}
use Rattle.ua_table.specs.Algebras.{Vector, FiniteAlgebra, IsVector, AreVectorsOf, IsIncreasing, arities_of, power}
use Rattle.ua_table.specs.Tables.{IsAlgebraTable}
use Rattle.ua_table.specs.Frames.{IsWidth}
use Rattle.ua_table.specs.Listings.{Row, vectors_of, ranks_of}
use Rattle.ua_table.specs.Terms.{IsTerm}
use Rattle.ua_table.specs.Generated.{Sg}
use Rattle.ua_table.specs.Refusals.{first_refusal}
use Rattle.ua_term.specs.Steps.{AreSteps, step_values}
use Rattle.ua_cert.specs.declared.certs.CertStep.{CertStep}
use Rattle.ua_flaws.specs.declared.flaws.ListName.{ListName}
use Rattle.ua_flaws.specs.Steps.{origins_of, last_term, written_steps, row_steps}
use Rattle.ua_flaws.specs.Answers.{AreExact, IsPowerListing}
use Rattle.ua_flaws.specs.Flaws.{vectors_flaw, steps_flaw, closed_flaw, outside_lines, member_flaw, not_member_flaw, listing_flaw}

-- ---- steps

-- steps without a flaw are steps
abbrev pub StepsAreSteps : Type 0
StepsAreSteps = (a : FiniteAlgebra) (gens : ℕ) (term : Option ℕ) (steps : List CertStep) → steps_flaw a gens term steps ≡ None → AreSteps (arities_of a) gens (origins_of a steps)

-- the last of them unfolds to a term
abbrev pub LastIsTerm : Type 0
LastIsTerm = (a : FiniteAlgebra) (gens : ℕ) (term : Option ℕ) (steps : List CertStep) → 0 < length steps → steps_flaw a gens term steps ≡ None → IsTerm (arities_of a) gens (last_term a steps)

-- what is written of steps has no flaw
abbrev pub WrittenIsFlawless : Type 0
WrittenIsFlawless = (a : FiniteAlgebra) (gens : ℕ) (term : Option ℕ) (steps : List Origin) → IsAlgebraTable a → AreSteps (arities_of a) gens steps → steps_flaw a gens term (written_steps a steps) ≡ None

-- and is read as these steps
abbrev pub WrittenIsRead : Type 0
WrittenIsRead = (a : FiniteAlgebra) (gens : ℕ) (steps : List Origin) → IsAlgebraTable a → AreSteps (arities_of a) gens steps → origins_of a (written_steps a steps) ≡ steps

-- ---- vectors and rows

-- vectors of a power have no flaw
abbrev pub VectorsAreFlawless : Type 0
VectorsAreFlawless = (a : FiniteAlgebra) (width : ℕ) (list : ListName) (vs : List Vector) → AreVectorsOf (power a width) vs → vectors_flaw a.size width list vs ≡ None

-- rows without a flaw hold all that is generated
abbrev pub RowsHoldAll : Type 0
RowsHoldAll = (a : FiniteAlgebra) (width : ℕ) (gens rows : List Vector) → closed_flaw a width gens rows ≡ None → (v : Vector) → Sg (power a width) gens v → Contains rows v

-- where such rows lack a target, it is not generated
abbrev pub LackedIsOutside : Type 0
LackedIsOutside = (a : FiniteAlgebra) (width : ℕ) (gens rows : List Vector) (target : Vector) → first_refusal (outside_lines a width gens rows target) ≡ None → ¬ Sg (power a width) gens target

-- rows in order that are exactly what is generated have no flaw
abbrev pub ExactIsFlawless : Type 0
ExactIsFlawless = (a : FiniteAlgebra) (width : ℕ) (gens rows : List Vector) → IsIncreasing rows → AreExact a width gens rows → closed_flaw a width gens rows ≡ None

-- nor has it a flaw that they lack a target
abbrev pub LackingIsFlawless : Type 0
LackingIsFlawless = (a : FiniteAlgebra) (width : ℕ) (gens rows : List Vector) (target : Vector) → IsIncreasing rows → AreExact a width gens rows → ¬ Contains rows target → first_refusal (outside_lines a width gens rows target) ≡ None

-- ---- certificates that are made of right answers

-- that of steps to a vector of the power has no flaw
abbrev pub MemberIsFlawless : Type 0
MemberIsFlawless = (a : FiniteAlgebra) (gens : List Vector) (steps : List Origin) (target : Vector) (width : ℕ) → IsAlgebraTable a → IsWidth width
    → AreVectorsOf (power a width) gens → IsVector (power a width) target → AreSteps (arities_of a) (length gens) steps
    → slice_get (step_values (power a width) gens steps) (length steps - 1) ≡ Some target → member_flaw a gens (written_steps a steps) target width ≡ None

-- nor has that of the rows of a listing that lack a vector of the power
abbrev pub NotMemberIsFlawless : Type 0
NotMemberIsFlawless = (a : FiniteAlgebra) (gens : List Vector) (rows : List Row) (target : Vector) (width : ℕ) → IsPowerListing a width gens rows
    → IsVector (power a width) target → ¬ Contains (vectors_of rows) target → not_member_flaw a gens (vectors_of rows) target width ≡ None

-- nor that of a listing
abbrev pub ListingIsFlawless : Type 0
ListingIsFlawless = (a : FiniteAlgebra) (gens : List Vector) (rows : List Row) (width : ℕ) → IsAlgebraTable a → IsPowerListing a width gens rows
    → listing_flaw a gens (row_steps a rows) (ranks_of rows) (vectors_of rows) width ≡ None
