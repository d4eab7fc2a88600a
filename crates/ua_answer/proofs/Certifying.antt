-- A certificate, from the answer of the command by itself.
use Rattle.std.proofs.Common.{◌≡◌, ℕ, ◌<◌, ◌≤◌, true, List, length, replicate, Option, Some, Result, Ok, Err, sym, ap, subst, ◌∙◌}
use Rattle.std.specs.List.{AllByRecursion}
use Rattle.std.proofs.lemmas.List.{length-replicate}
use Rattle.ua_table.specs.declared.limits.TheConstants.{WIDTH}
use Rattle.ua_table.specs.Algebras.{Vector, FiniteAlgebra, Product, IsProduct, IsVector, power}
use Rattle.ua_table.specs.Frames.{IsWidth}
use Rattle.ua_table.specs.VectorLists.{VectorList}
use Rattle.ua_close.specs.declared.close.Closure.{Closure}
use Rattle.ua_close.specs.declared.close.CloseError.{CloseError}
use Rattle.ua_close.specs.declared.memberships.Answer.{Answer}
use Rattle.ua_close.specs.Answers.{Answers}
use Rattle.ua_close.specs.Memberships.{Tells}
use Rattle.ua_close.specs.Permitted.{MayClose, MayMember}
use Rattle.ua_cond.specs.Permitted.{MayDecide}
use Rattle.ua_chain.specs.declared.chains.Chain.{Chain}
use Rattle.ua_chain.specs.Permitted.{MayChain}
use Rattle.ua_cert.specs.declared.certs.Cert.{Cert}
use Rattle.ua_cert.specs.declared.certs.CondName.{CondName}
use Rattle.ua_cert.specs.declared.certs.ChainName.{ChainName}
use Rattle.ua_check.specs.Conditions.{condition_of, has_places}
use Rattle.ua_check.specs.Chains.{kind_of}
use Rattle.ua_certify.specs.Certified.{closure_certificate, member_certificate, condition_certificate, chain_certificate, HasNoFlaw}
use Rattle.ua_operands.specs.declared.written.Number.{Number}
use Rattle.ua_operands.specs.declared.written.Items.{Items}
use Rattle.ua_text.specs.declared.named.Block.{Block}
use Rattle.ua_reply.specs.Sessions.{Bounds}
use Rattle.ua_reply.specs.Closures.{cause_text}
use Rattle.ua_reply.specs.Operands.{values_of, vectors_of, power_of}
use Rattle.ua_answer.specs.Certificates.{certificate_text, Certifies, CertifiedClosure, CertifiedMembership, CertifiedCondition, CertifiedChain}

-- nothing was closed
pub cause_certified : {A : Type 0} (a : FiniteAlgebra) (budget : ℕ) (May : Result A CloseError → Type 0) (certificate : A → Option Cert) (cause : CloseError) (bytes : List ℕ)
    → May (Err cause) → cause_text cause ≡ Some bytes → Certifies a budget May certificate bytes
cause_certified a budget May certificate cause bytes may text = record { answer = Err cause; permitted = may; told = text; flawless = tt }

-- the certificate of an answer
pub answer_certified : {A : Type 0} (a : FiniteAlgebra) (budget : ℕ) (May : Result A CloseError → Type 0) (certificate : A → Option Cert) (answer : A) (cert : Option Cert) (bytes : List ℕ)
    → May (Ok answer) → cert ≡ certificate answer → bytes ≡ certificate_text budget cert → HasNoFlaw a cert → Certifies a budget May certificate bytes
answer_certified a budget May certificate answer cert bytes may is text flawless = record {
  answer = Ok answer;
  permitted = may;
  told = ap Some (ap (certificate_text budget) (sym is) ∙ sym text);
  flawless = subst (HasNoFlaw a) is flawless;
}

-- a frame of a power has a width
pub frame_width : (a : FiniteAlgebra) (width : ℕ) (p : Product) → p ≡ replicate width a → IsProduct p → length p ≤ WIDTH → IsWidth width
frame_width a width p is product small =
    let count : length p ≡ width = ap length is ∙ length-replicate width a in
    (subst (λ n. 0 < n) count product.wide, subst (λ n. n ≤ WIDTH) count small)

-- ---- what is certified

pub closure_certified : (k : Block) (b : Bounds) (width : Number) (gens : List Items) (a : FiniteAlgebra) (p : Product) (list : VectorList) (closure : Closure) (cert : Option Cert) (bytes : List ℕ)
    → a ≡ k.algebra → p ≡ power_of k width.value → list ≡ record { width = width.value; items = vectors_of k gens } → IsProduct p → length p ≤ WIDTH → AllByRecursion (IsVector (power_of k width.value)) list.items
    → MayClose p list.items b.budget b.workers (Ok closure) → cert ≡ closure_certificate a width.value list.items closure
    → ((n : ℕ) → IsWidth width.value → AllByRecursion (IsVector (power a width.value)) list.items → Answers (power a width.value) list.items n closure → HasNoFlaw a cert)
    → bytes ≡ certificate_text b.budget cert → CertifiedClosure k b width gens bytes
closure_certified k b width gens a p list closure cert bytes algebra frame listed product small vectors may is flawless text =
    let wide = frame_width k.algebra width.value p frame product small in
    let items : list.items ≡ vectors_of k gens = ap VectorList.items listed in
    let may_k = rw frame at may in
    let is_k = rw algebra at is in
    let flawless_k = rw algebra at flawless in
    answer_certified k.algebra b.budget _ (closure_certificate k.algebra width.value (vectors_of k gens)) closure cert bytes
    (rw items at may_k) (rw items at is_k) text (flawless_k b.budget wide vectors may_k.1)

pub membership_certified : (k : Block) (b : Bounds) (width : Number) (gens : List Items) (target : Items) (a : FiniteAlgebra) (p : Product) (list : VectorList) (v : Vector) (answer : Answer) (cert : Option Cert) (bytes : List ℕ)
    → a ≡ k.algebra → p ≡ power_of k width.value → list ≡ record { width = width.value; items = vectors_of k gens } → v ≡ values_of k target → IsProduct p → length p ≤ WIDTH
    → AllByRecursion (IsVector (power_of k width.value)) list.items → IsVector (power_of k width.value) v
    → MayMember p list.items v b.budget b.workers (Ok answer) → cert ≡ member_certificate a width.value list.items v answer
    → ((n : ℕ) → IsWidth width.value → AllByRecursion (IsVector (power a width.value)) list.items → IsVector (power a width.value) v → Tells (power a width.value) list.items v n answer → HasNoFlaw a cert)
    → bytes ≡ certificate_text b.budget cert → CertifiedMembership k b width gens target bytes
membership_certified k b width gens target a p list v answer cert bytes algebra frame listed value product small vectors vector may is flawless text =
    let wide = frame_width k.algebra width.value p frame product small in
    let items : list.items ≡ vectors_of k gens = ap VectorList.items listed in
    let may_k = rw frame at may in
    let is_k = rw algebra at is in
    let flawless_k = rw algebra at flawless in
    answer_certified k.algebra b.budget _ (member_certificate k.algebra width.value (vectors_of k gens) (values_of k target)) answer cert bytes
    (rw (items, value) at may_k) (rw (items, value) at is_k) text (flawless_k b.budget wide vectors vector may_k.1)

pub condition_certified : (k : Block) (b : Bounds) (name : CondName) (places : ℕ) (a : FiniteAlgebra) (answer : Answer) (cert : Option Cert) (bytes : List ℕ)
    → a ≡ k.algebra → 1 ≤ b.budget → has_places name places ≡ true → MayDecide k.algebra (condition_of name places) b.budget b.workers (Ok answer)
    → cert ≡ condition_certificate a name places answer
    → ((n w : ℕ) → 1 ≤ n → has_places name places ≡ true → MayDecide a (condition_of name places) n w (Ok answer) → HasNoFlaw a cert)
    → bytes ≡ certificate_text b.budget cert → CertifiedCondition k b name places bytes
condition_certified k b name places a answer cert bytes algebra some are may is flawless text =
    let Flawless = λ (x : FiniteAlgebra). 1 ≤ b.budget → has_places name places ≡ true → MayDecide x (condition_of name places) b.budget b.workers (Ok answer) → HasNoFlaw x cert in
    answer_certified k.algebra b.budget _ (condition_certificate k.algebra name places) answer cert bytes may
    (rw algebra at is) text (subst Flawless algebra (flawless b.budget b.workers) some are may)

pub chain_certified : (k : Block) (b : Bounds) (name : ChainName) (a : FiniteAlgebra) (answer : Chain) (cert : Option Cert) (bytes : List ℕ)
    → a ≡ k.algebra → 1 ≤ b.budget → MayChain k.algebra (kind_of name) b.budget b.workers (Ok answer) → cert ≡ chain_certificate a name answer
    → ((n w : ℕ) → 1 ≤ n → MayChain a (kind_of name) n w (Ok answer) → HasNoFlaw a cert)
    → bytes ≡ certificate_text b.budget cert → CertifiedChain k b name bytes
chain_certified k b name a answer cert bytes algebra some may is flawless text =
    let flawless_k = rw algebra at flawless in
    answer_certified k.algebra b.budget _ (chain_certificate k.algebra name) answer cert bytes may
    (rw algebra at is) text (flawless_k b.budget b.workers some may)
