-- Certificates of terms and of chains that have no flaw, since they are made of right answers.
use Rattle.std.specs.Prelude.{◌≡◌, ℕ, ◌<◌, ◌≤◌, true, false, None, List, length, map, Contains}
use Rattle.std.specs.List.{AllByRecursion}
use Rattle.ua_table.specs.declared.limits.TheConstants.{WIDTH}
use Rattle.ua_table.specs.declared.origins.Origin.{Origin}
use Rattle.ua_table.specs.Algebras.{Vector, FiniteAlgebra, AreVectorsOf, IsIncreasing, arities_of, power}
use Rattle.ua_table.specs.Tables.{IsAlgebraTable}
use Rattle.ua_term.specs.Steps.{AreSteps, written_term}
use Rattle.ua_identity.specs.Conditions.{Meets}
use Rattle.ua_identity.specs.Chains.{IsChain, generators_of, AreReached}
use Rattle.ua_identity.specs.Patterns.{argument_vectors, value_vector}
use Rattle.ua_cert.specs.declared.certs.CondName.{CondName}
use Rattle.ua_cert.specs.declared.certs.ChainName.{ChainName}
use Rattle.ua_flaws.specs.Steps.{written_steps}
use Rattle.ua_flaws.specs.Answers.{AreExact}
use Rattle.ua_check.specs.Conditions.{condition_of, has_places, width_of, condition_flaw, no_condition_flaw}
use Rattle.ua_check.specs.Chains.{kind_of, chain_width, chain_flaw, HasNoChain}
use Rattle.ua_check.specs.Reached.{no_chain_flaw}

-- steps of a term that meets the condition
abbrev pub TermIsFlawless : Type 0
TermIsFlawless = (a : FiniteAlgebra) (name : CondName) (k : ℕ) (steps : List Origin) → IsAlgebraTable a → has_places name k ≡ true
    → width_of a name k ≤ WIDTH → 0 < length steps → AreSteps (arities_of a) k steps → Meets a (written_term (arities_of a) steps) (condition_of name k)
    → condition_flaw a name k (written_steps a steps) ≡ None

-- rows that are exactly what is generated, and lack the values that the condition asks for
abbrev pub NoTermIsFlawless : Type 0
NoTermIsFlawless = (a : FiniteAlgebra) (name : CondName) (k : ℕ) (rows : List Vector) → has_places name k ≡ true
    → width_of a name k ≤ WIDTH → IsIncreasing rows → AreVectorsOf (power a (width_of a name k)) rows
    → AreExact a (width_of a name k) (argument_vectors a (condition_of name k)) rows → ¬ Contains rows (value_vector a (condition_of name k))
    → no_condition_flaw a name k rows ≡ None

-- steps of terms that are a chain
abbrev pub ChainTermsAreFlawless : Type 0
ChainTermsAreFlawless = (a : FiniteAlgebra) (name : ChainName) (terms : List (List Origin)) → IsAlgebraTable a → chain_width a (kind_of name) ≤ WIDTH
    → AllByRecursion (λ (steps : List Origin). 0 < length steps) terms → AllByRecursion (AreSteps (arities_of a) (kind_of name).places) terms
    → IsChain a (kind_of name) (map (written_term (arities_of a)) terms) → chain_flaw a name (map (written_steps a) terms) ≡ None

-- rows that are exactly what is generated, with the positions of those that beginnings of chains reach, where there is no chain
abbrev pub NoChainIsFlawless : Type 0
NoChainIsFlawless = (a : FiniteAlgebra) (name : ChainName) (rows : List Vector) (even odd : List ℕ) → 0 < a.size → chain_width a (kind_of name) ≤ WIDTH
    → IsIncreasing rows → AreVectorsOf (power a (chain_width a (kind_of name))) rows
    → AreExact a (chain_width a (kind_of name)) (generators_of a (kind_of name)) rows → AreReached a (kind_of name) true rows even
    → AreReached a (kind_of name) false rows odd → HasNoChain a name → no_chain_flaw a name rows even odd ≡ None
