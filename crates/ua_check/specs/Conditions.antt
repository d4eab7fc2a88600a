-- What certificates of conditions say, and their flaws.
use Rattle.std.specs.Prelude.{ℕ, ◌==◌, ◌&&◌, ◌||◌, nat_lt, nat_le, not, Bool, Option, None, List, [], ◌∷◌, length, map, find, slice_index}
use Rattle.std.specs.List.{enumerate_from}
use Rattle.std.specs.Option.{option_map}
use Rattle.ua_table.specs.declared.limits.TheConstants.{WIDTH}
use Rattle.ua_table.specs.Algebras.{Vector, FiniteAlgebra, arities_of}
use Rattle.ua_table.specs.Terms.{Tree, IsTerm}
use Rattle.ua_table.specs.Refusals.{refusal_if, first_refusal}
use Rattle.ua_term.specs.Steps.{AreSteps}
use Rattle.ua_term.specs.Assignments.{assignments}
use Rattle.ua_identity.specs.declared.limits.TheConstants.{PLACES, NEAR_UNANIMITY}
use Rattle.ua_identity.specs.Identities.{TermIdentity, at_pattern}
use Rattle.ua_identity.specs.Conditions.{TermCondition, Meets, IsMet, maltsev, majority, minority, pixley, near_unanimity}
use Rattle.ua_identity.specs.Patterns.{condition_power, argument_vectors, value_vector}
use Rattle.ua_cert.specs.declared.certs.CertStep.{CertStep}
use Rattle.ua_cert.specs.declared.certs.CondName.{CondName}
use Rattle.ua_cert.specs.declared.certs.CondName.TheVariants.{Maltsev, Majority, Minority, Pixley, Nu}
use Rattle.ua_flaws.specs.declared.flaws.ListName.TheVariants.{Rows}
use Rattle.ua_flaws.specs.declared.flaws.Flaw.{Flaw}
use Rattle.ua_flaws.specs.declared.flaws.Flaw.TheVariants as flaw
use Rattle.ua_flaws.specs.Steps.{origins_of, last_term}
use Rattle.ua_flaws.specs.Flaws.{vectors_flaw, steps_flaw, outside_lines}

-- the condition of this name on terms of k places
abbrev pub condition_of : CondName → ℕ → TermCondition
condition_of Maltsev k = maltsev
condition_of Majority k = majority
condition_of Minority k = minority
condition_of Pixley k = pixley
condition_of Nu k = near_unanimity k

-- a near-unanimity term has places within its limits, and the others have 3
abbrev pub has_places : CondName → ℕ → Bool
has_places Nu k = nat_le NEAR_UNANIMITY k && nat_le k PLACES
has_places Maltsev k = k == 3
has_places Majority k = k == 3
has_places Minority k = k == 3
has_places Pixley k = k == 3

-- ---- what they say

-- the steps are steps over k generators, and the term of the last one meets the condition
pub record WritesTerm (a : FiniteAlgebra) (name : CondName) (k : ℕ) (steps : List CertStep) : Type 0 where
  pub steps_are : AreSteps (arities_of a) k (origins_of a steps)
  pub is_term : IsTerm (arities_of a) (condition_of name k).arity (last_term a steps)
  pub meets : Meets a (last_term a steps) (condition_of name k)

-- no term meets the condition
abbrev pub HasNoTerm : FiniteAlgebra → CondName → ℕ → Type 0
HasNoTerm a name k = IsMet a (condition_of name k) → ⊥

-- ---- their flaws

-- the condition has no terms of k places, or more coordinates than may be
abbrev pub is_no_condition : FiniteAlgebra → CondName → ℕ → Bool
is_no_condition a name k = not (has_places name k) || nat_lt WIDTH (length (condition_power a (condition_of name k)))

-- the identity fails of the term at this assignment
abbrev pub fails : FiniteAlgebra → Tree → TermIdentity → List ℕ → Bool
fails a t i xs = not (at_pattern a i.pattern t xs == slice_index xs i.value)

-- the first assignment at which it fails
abbrev pub identity_failure : FiniteAlgebra → Tree → TermIdentity → Option (List ℕ)
identity_failure a t i = find (fails a t i) (assignments a.size i.pattern.variables)

-- the flaw that the identity of this number fails
abbrev pub failure_flaw : FiniteAlgebra → Tree → ℕ × TermIdentity → Option Flaw
failure_flaw a t c = option_map (λ (xs : List ℕ). flaw.Identity c.0 (slice_index xs 0) (slice_index xs 1)) (identity_failure a t c.1)

-- the first identity that fails, at its first such assignment
abbrev pub identities_flaw : FiniteAlgebra → List TermIdentity → Tree → Option Flaw
identities_flaw a is t = first_refusal (map (failure_flaw a t) (enumerate_from 0 is))

-- the lines on a certificate that a term meets a condition
abbrev pub condition_lines : FiniteAlgebra → CondName → ℕ → List CertStep → List (Option Flaw)
condition_lines a name k steps =
    refusal_if (is_no_condition a name k || (length steps == 0)) flaw.Width
    ∷ steps_flaw a k None steps
    ∷ identities_flaw a (condition_of name k).identities (last_term a steps)
    ∷ []

-- the first flaw of a certificate that a term meets a condition
abbrev pub condition_flaw : FiniteAlgebra → CondName → ℕ → List CertStep → Option Flaw
condition_flaw a name k steps = first_refusal (condition_lines a name k steps)

-- how many coordinates the vectors of the condition have
abbrev pub width_of : FiniteAlgebra → CondName → ℕ → ℕ
width_of a name k = length (condition_power a (condition_of name k))

-- the lines on a certificate that no term meets a condition
abbrev pub no_condition_lines : FiniteAlgebra → CondName → ℕ → List Vector → List (Option Flaw)
no_condition_lines a name k rows =
    refusal_if (is_no_condition a name k) flaw.Width
    ∷ vectors_flaw a.size (width_of a name k) Rows rows
    ∷ outside_lines a (width_of a name k) (argument_vectors a (condition_of name k)) rows (value_vector a (condition_of name k))

-- the first flaw of a certificate that no term meets a condition
abbrev pub no_condition_flaw : FiniteAlgebra → CondName → ℕ → List Vector → Option Flaw
no_condition_flaw a name k rows = first_refusal (no_condition_lines a name k rows)
