-- Laws of certificates: that of what a call may answer has no flaw, where the budget is at least one member.
use Rattle.std.specs.Prelude.{◌≡◌, ◌<◌, ◌≤◌, ℕ, true, List, Ok}
use Rattle.ua_table.specs.Algebras.{FiniteAlgebra, Vector, IsVector, AreVectorsOf, power}
use Rattle.ua_table.specs.Tables.{IsAlgebraTable}
use Rattle.ua_close.specs.declared.close.Closure.{Closure}
use Rattle.ua_close.specs.declared.memberships.Answer.{Answer}
use Rattle.ua_close.specs.Permitted.{MayClose, MayMember}
use Rattle.ua_cond.specs.Permitted.{MayDecide}
use Rattle.ua_chain.specs.declared.chains.Chain.{Chain}
use Rattle.ua_chain.specs.Permitted.{MayChain}
use Rattle.ua_cert.specs.declared.certs.CondName.{CondName}
use Rattle.ua_cert.specs.declared.certs.ChainName.{ChainName}
use Rattle.ua_check.specs.Conditions.{condition_of, has_places}
use Rattle.ua_check.specs.Chains.{kind_of}
use Rattle.ua_certify.specs.Certified.{closure_certificate, member_certificate, condition_certificate, chain_certificate, HasNoFlaw}

-- that of a closure
abbrev pub ClosureIsFlawless : Type 0
ClosureIsFlawless = (a : FiniteAlgebra) (width b w : ℕ) (gens : List Vector) (closure : Closure) → IsAlgebraTable a → 0 < width → 1 ≤ b → AreVectorsOf (power a width) gens
    → MayClose (power a width) gens b w (Ok closure) → HasNoFlaw a (closure_certificate a width gens closure)

-- that of a membership
abbrev pub MembershipIsFlawless : Type 0
MembershipIsFlawless = (a : FiniteAlgebra) (width b w : ℕ) (gens : List Vector) (target : Vector) (answer : Answer) → IsAlgebraTable a → 0 < width → 1 ≤ b
    → AreVectorsOf (power a width) gens → IsVector (power a width) target → MayMember (power a width) gens target b w (Ok answer) → HasNoFlaw a (member_certificate a width gens target answer)

-- that of a condition
abbrev pub ConditionIsFlawless : Type 0
ConditionIsFlawless = (a : FiniteAlgebra) (name : CondName) (k b w : ℕ) (answer : Answer) → IsAlgebraTable a → 1 ≤ b → has_places name k ≡ true
    → MayDecide a (condition_of name k) b w (Ok answer) → HasNoFlaw a (condition_certificate a name k answer)

-- that of a chain
abbrev pub ChainIsFlawless : Type 0
ChainIsFlawless = (a : FiniteAlgebra) (name : ChainName) (b w : ℕ) (answer : Chain) → IsAlgebraTable a → 1 ≤ b
    → MayChain a (kind_of name) b w (Ok answer) → HasNoFlaw a (chain_certificate a name answer)
