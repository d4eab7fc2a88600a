-- Certificates of answers: the certificate, without a flaw, of an answer that the command may get by itself.
use Rattle.std.specs.Prelude.{◌≡◌, ℕ, List, Option, None, Some, Result, IfOk, codes}
use Rattle.ua_table.specs.Algebras.{FiniteAlgebra}
use Rattle.ua_close.specs.declared.close.CloseError.{CloseError}
use Rattle.ua_close.specs.Permitted.{MayClose, MayMember}
use Rattle.ua_cond.specs.Permitted.{MayDecide}
use Rattle.ua_chain.specs.Permitted.{MayChain}
use Rattle.ua_cert.specs.declared.certs.Cert.{Cert}
use Rattle.ua_cert.specs.declared.certs.CondName.{CondName}
use Rattle.ua_cert.specs.declared.certs.ChainName.{ChainName}
use Rattle.ua_cert.specs.Writing.{written}
use Rattle.ua_check.specs.Conditions.{condition_of}
use Rattle.ua_check.specs.Chains.{kind_of}
use Rattle.ua_certify.specs.Certified.{closure_certificate, member_certificate, condition_certificate, chain_certificate, HasNoFlaw}
use Rattle.ua_operands.specs.declared.written.Number.{Number}
use Rattle.ua_operands.specs.declared.written.Items.{Items}
use Rattle.ua_text.specs.declared.named.Block.{Block}
use Rattle.ua_reply.specs.Sessions.{Bounds}
use Rattle.ua_reply.specs.Closures.{told}
use Rattle.ua_reply.specs.Operands.{values_of, vectors_of, power_of}
use Rattle.ua_reply.specs.Texts.{line, counted}

-- the certificate on a line, or that there are more members than the budget
abbrev pub certificate_text : ℕ → Option Cert → List ℕ
certificate_text budget None = line (counted (codes "exceeds") budget)
certificate_text budget (Some c) = line (written c)

-- the bytes are the certificate, without a flaw, of some answer that the command may get by itself
pub record Certifies {A : Type 0} (a : FiniteAlgebra) (budget : ℕ) (May : Result A CloseError → Type 0) (certificate : A → Option Cert) (bytes : List ℕ) : Type 0 where
  pub answer : Result A CloseError
  pub permitted : May answer
  pub told : told (λ x. certificate_text budget (certificate x)) answer ≡ Some bytes
  pub flawless : IfOk answer (λ x. HasNoFlaw a (certificate x))

-- a closure in a power of the algebra
abbrev pub CertifiedClosure : Block → Bounds → Number → List Items → List ℕ → Type 0
CertifiedClosure k b width gens bytes =
    let vs = vectors_of k gens in
    Certifies k.algebra b.budget (MayClose (power_of k width.value) vs b.budget b.workers) (closure_certificate k.algebra width.value vs) bytes

-- whether a vector is generated
abbrev pub CertifiedMembership : Block → Bounds → Number → List Items → Items → List ℕ → Type 0
CertifiedMembership k b width gens target bytes =
    let vs = vectors_of k gens in
    let v = values_of k target in
    Certifies k.algebra b.budget (MayMember (power_of k width.value) vs v b.budget b.workers) (member_certificate k.algebra width.value vs v) bytes

-- whether some term with so many places meets the condition of this name
abbrev pub CertifiedCondition : Block → Bounds → CondName → ℕ → List ℕ → Type 0
CertifiedCondition k b name places bytes =
    Certifies k.algebra b.budget (MayDecide k.algebra (condition_of name places) b.budget b.workers) (condition_certificate k.algebra name places) bytes

-- a least chain of this name
abbrev pub CertifiedChain : Block → Bounds → ChainName → List ℕ → Type 0
CertifiedChain k b name bytes = Certifies k.algebra b.budget (MayChain k.algebra (kind_of name) b.budget b.workers) (chain_certificate k.algebra name) bytes
