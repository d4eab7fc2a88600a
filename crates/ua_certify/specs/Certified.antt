-- The certificates of answers: of the kind that fits each answer, with what was asked and what was answered in it.
use Rattle.std.specs.Prelude.{◌≡◌, ℕ, List, map, Option, Some, None, IfSome}
use Rattle.ua_table.specs.Algebras.{Vector, FiniteAlgebra, IsVector, power}
use Rattle.ua_table.specs.Listings.{Row, vectors_of, ranks_of}
use Rattle.ua_term.specs.Steps.{StepList}
use Rattle.ua_cert.specs.declared.certs.CondName.{CondName}
use Rattle.ua_cert.specs.declared.certs.ChainName.{ChainName}
use Rattle.ua_cert.specs.declared.certs.Cert.{Cert}
use Rattle.ua_cert.specs.declared.certs.Cert.TheVariants as certs
use Rattle.ua_flaws.specs.Steps.{written_steps, row_steps}
use Rattle.ua_check.specs.Checking.{flaw_of}
use Rattle.ua_close.specs.declared.close.Closure.{Closure}
use Rattle.ua_close.specs.declared.close.Closure.TheVariants as closures
use Rattle.ua_close.specs.declared.memberships.Answer.{Answer}
use Rattle.ua_close.specs.declared.memberships.Answer.TheVariants as answers
use Rattle.ua_close.specs.Memberships.{Tells}
use Rattle.ua_chain.specs.declared.chains.Chain.{Chain}
use Rattle.ua_chain.specs.declared.chains.Chain.TheVariants as chains

-- a closed listing, with its ranks and origins
abbrev pub listing_certificate : FiniteAlgebra → ℕ → List Vector → List Row → Cert
listing_certificate a width gens rows = certs.Listing gens (row_steps a rows) (ranks_of rows) (vectors_of rows) width

-- beyond the budget there is no certificate
abbrev pub closure_certificate : FiniteAlgebra → ℕ → List Vector → Closure → Option Cert
closure_certificate a width gens (closures.Closed rows) = Some (listing_certificate a width gens rows)
closure_certificate a width gens (closures.Exceeds rows) = None

-- steps to the target, or rows that lack it
abbrev pub member_certificate : FiniteAlgebra → ℕ → List Vector → Vector → Answer → Option Cert
member_certificate a width gens target (answers.Yes steps) = Some (certs.Member gens (written_steps a steps.items) target width)
member_certificate a width gens target (answers.No rows) = Some (certs.NotMember gens (vectors_of rows) target width)
member_certificate a width gens target (answers.Exceeds rows) = None

-- steps of a term that meets the condition of k places, or rows where there is none
abbrev pub condition_certificate : FiniteAlgebra → CondName → ℕ → Answer → Option Cert
condition_certificate a name k (answers.Yes steps) = Some (certs.Condition name k (written_steps a steps.items))
condition_certificate a name k (answers.No rows) = Some (certs.NoCondition name k (vectors_of rows))
condition_certificate a name k (answers.Exceeds rows) = None

-- the terms of a chain, or rows with the positions of those that are reached
abbrev pub chain_certificate : FiniteAlgebra → ChainName → Chain → Option Cert
chain_certificate a name (chains.Yes terms) = Some (certs.Chain name (map (λ (s : StepList). written_steps a s.items) terms.items))
chain_certificate a name (chains.No rows even odd) = Some (certs.NoChain name (vectors_of rows) even.items odd.items)
chain_certificate a name (chains.Exceeds rows) = None

-- the certificate, where there is one, has no flaw
abbrev pub HasNoFlaw : FiniteAlgebra → Option Cert → Type 0
HasNoFlaw a certificate = IfSome certificate (λ c. flaw_of a c ≡ None)

-- it has none where the answer on a vector of the power is right
abbrev pub HasNoFlawIfTold : FiniteAlgebra → ℕ → List Vector → Vector → ℕ → Answer → Option Cert → Type 0
HasNoFlawIfTold a width gens target b answer certificate = IsVector (power a width) target → Tells (power a width) gens target b answer → HasNoFlaw a certificate
