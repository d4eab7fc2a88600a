-- What may be answered can be certified, within a budget of at least one member.
use Rattle.std.proofs.Common.{◌≡◌, ℕ, ◌≤◌, true, List, Option, Result, Ok, Err, refl}
use Rattle.ua_table.specs.Algebras.{FiniteAlgebra}
use Rattle.ua_table.specs.Tables.{IsAlgebraTable}
use Rattle.ua_table.proofs.AlgebraLaws.{power_product}
use Rattle.ua_chain.specs.Permitted.{MayChain}
use Rattle.ua_close.specs.declared.close.CloseError.{CloseError}
use Rattle.ua_close.specs.declared.close.CloseError.TheVariants.{Wide, OutOfMemory}
use Rattle.ua_close.specs.Permitted.{MayClose, MayMember, IsAnswerable}
use Rattle.ua_close.proofs.AnswerLaws.{may_close, may_member}
use Rattle.ua_cond.specs.Permitted.{MayDecide}
use Rattle.ua_cert.specs.declared.certs.Cert.{Cert}
use Rattle.ua_cert.specs.declared.certs.CondName.{CondName}
use Rattle.ua_cert.specs.declared.certs.ChainName.{ChainName}
use Rattle.ua_check.specs.Conditions.{condition_of, has_places}
use Rattle.ua_check.specs.Chains.{kind_of}
use Rattle.ua_certify.specs.Certified.{closure_certificate, member_certificate, condition_certificate, chain_certificate, HasNoFlaw}
use Rattle.ua_certify.specs.Laws.{ClosureIsFlawless, MembershipIsFlawless, ConditionIsFlawless, ChainIsFlawless}
use Rattle.ua_operands.specs.declared.written.Number.{Number}
use Rattle.ua_operands.specs.declared.written.Items.{Items}
use Rattle.ua_text.specs.declared.named.Block.{Block}
use Rattle.ua_reply.specs.declared.refusals.Refusal.TheVariants as refusals
use Rattle.ua_reply.specs.Sessions.{Bounds}
use Rattle.ua_reply.specs.Checks.{Passes, ◌and◌}
use Rattle.ua_reply.specs.Operands.{values_of, vectors_of, power_of, positive, vector_in, vectors_in}
use Rattle.ua_reply.specs.Refusals.{refusal_text}
use Rattle.ua_reply.specs.Replies.{HasBytes}
use Rattle.ua_reply.proofs.CheckLaws.{parts_pass}
use Rattle.ua_reply.proofs.OperandLaws.{vector_admitted, vectors_admitted, width_positive}
use Rattle.ua_answer_algebras.specs.CloseCommand.{close_checks}
use Rattle.ua_answer_algebras.specs.MemberCommand.{member_checks}
use Rattle.ua_answer.specs.Certificates.{certificate_text, Certifies, CertifiedClosure, CertifiedMembership, CertifiedCondition, CertifiedChain}

-- an answer other than want of memory, certified
certified : {A : Type 0} (a : FiniteAlgebra) (budget : ℕ) (May : Result A CloseError → Type 0) (certificate : A → Option Cert) → IsAnswerable May OutOfMemory
    → ((x : A) → May (Ok x) → HasNoFlaw a (certificate x)) → HasBytes (Certifies a budget May certificate)
certified {A} a budget May certificate h each = of h.answer h.permitted h.told
  where
    of : (answer : Result A CloseError) → May answer → (answer ≡ Err OutOfMemory → ⊥) → HasBytes (Certifies a budget May certificate)
    of (Ok x) may told = record { bytes = certificate_text budget (certificate x); are = record { answer = Ok x; permitted = may; told = refl; flawless = each x may } }
    of (Err (Wide r c)) may told = record { bytes = refusal_text (refusals.Wide r c); are = record { answer = Err (Wide r c); permitted = may; told = refl; flawless = tt } }
    of (Err OutOfMemory) may told = absurd (told refl)

pub closure_exists : ClosureIsFlawless → (k : Block) (b : Bounds) (width : Number) (gens : List Items) → IsAlgebraTable k.algebra → 1 ≤ b.budget → Passes (close_checks k width gens)
    → HasBytes (CertifiedClosure k b width gens)
closure_exists law k b width gens table one passes =
    let both = parts_pass (positive width) (vectors_in k width.value gens) passes in
    let some = width_positive width both.0 in
    let p = power_of k width.value in
    let vs = vectors_of k gens in
    let admitted = vectors_admitted k width.value gens both.1 in
    let may = may_close p vs b.budget b.workers (power_product k.algebra width.value table.algebra some) admitted in
    certified k.algebra b.budget (MayClose p vs b.budget b.workers) (closure_certificate k.algebra width.value vs) may (λ closure permitted.
    law k.algebra width.value b.budget b.workers vs closure table some one admitted permitted)

pub membership_exists : MembershipIsFlawless → (k : Block) (b : Bounds) (width : Number) (gens : List Items) (target : Items) → IsAlgebraTable k.algebra → 1 ≤ b.budget
    → Passes (member_checks k width gens target) → HasBytes (CertifiedMembership k b width gens target)
membership_exists law k b width gens target table one passes =
    let all = parts_pass (positive width and vectors_in k width.value gens) (vector_in k width.value target) passes in
    let both = parts_pass (positive width) (vectors_in k width.value gens) all.0 in
    let some = width_positive width both.0 in
    let p = power_of k width.value in
    let vs = vectors_of k gens in
    let v = values_of k target in
    let admitted = vectors_admitted k width.value gens both.1 in
    let vector = vector_admitted k width.value target all.1 in
    let may = may_member p vs b.budget b.workers (power_product k.algebra width.value table.algebra some) admitted v in
    certified k.algebra b.budget (MayMember p vs v b.budget b.workers) (member_certificate k.algebra width.value vs v) may (λ answer permitted.
    law k.algebra width.value b.budget b.workers vs v answer table some one admitted vector permitted)

pub condition_exists : ConditionIsFlawless → (k : Block) (b : Bounds) (name : CondName) (places : ℕ) → has_places name places ≡ true
    → IsAnswerable (MayDecide k.algebra (condition_of name places) b.budget b.workers) OutOfMemory → IsAlgebraTable k.algebra → 1 ≤ b.budget → HasBytes (CertifiedCondition k b name places)
condition_exists law k b name places are may table one =
    certified k.algebra b.budget (MayDecide k.algebra (condition_of name places) b.budget b.workers) (condition_certificate k.algebra name places) may (λ answer permitted.
    law k.algebra name places b.budget b.workers answer table one are permitted)

pub chain_exists : ChainIsFlawless → (k : Block) (b : Bounds) (name : ChainName) → IsAnswerable (MayChain k.algebra (kind_of name) b.budget b.workers) OutOfMemory
    → IsAlgebraTable k.algebra → 1 ≤ b.budget → HasBytes (CertifiedChain k b name)
chain_exists law k b name may table one =
    certified k.algebra b.budget (MayChain k.algebra (kind_of name) b.budget b.workers) (chain_certificate k.algebra name) may (λ answer permitted.
    law k.algebra name b.budget b.workers answer table one permitted)
