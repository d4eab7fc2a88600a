-- Each question has a reply: by itself, and behind `cert` within a budget of at least one member.
use Rattle.std.proofs.Common.{◌≡◌, ℕ, ◌≤◌, ◌&&◌, nat_le, Bool, true, false, List, refl, subst}
use Rattle.ua_table.specs.Algebras.{FiniteAlgebra, IsAlgebra}
use Rattle.ua_chain.specs.Permitted.{MayChain}
use Rattle.ua_identity.specs.Conditions.{near_unanimity}
use Rattle.ua_close.specs.declared.close.CloseError.TheVariants.{OutOfMemory}
use Rattle.ua_close.specs.Permitted.{IsAnswerable}
use Rattle.ua_cond.specs.Permitted.{MayDecide}
use Rattle.ua_cert.specs.declared.certs.CondName.TheVariants as conditions
use Rattle.ua_cert.specs.declared.certs.ChainName.{ChainName}
use Rattle.ua_cert.specs.declared.certs.ChainName.TheVariants as chains
use Rattle.ua_check.specs.Conditions.{condition_of, has_places}
use Rattle.ua_check.specs.Chains.{kind_of}
use Rattle.ua_certify.specs.Laws.{ClosureIsFlawless, MembershipIsFlawless, ConditionIsFlawless, ChainIsFlawless}
use Rattle.ua_operands.specs.declared.written.Word.{Word}
use Rattle.ua_operands.specs.declared.written.Number.{Number}
use Rattle.ua_operands.specs.declared.written.Mode.{Mode}
use Rattle.ua_operands.specs.declared.written.CondWord.{CondWord}
use Rattle.ua_operands.specs.declared.written.CondWord.TheVariants.{Maltsev, Majority, Minority, Pixley}
use Rattle.ua_script.specs.Forms.{question, parts_of}
use Rattle.ua_script.specs.declared.script.Provable.{Provable}
use Rattle.ua_script.specs.declared.script.Provable.TheVariants.{Close, Member, Cond, Nu, Jonsson, Hm}
use Rattle.ua_text.specs.declared.named.Block.{Block}
use Rattle.ua_reply.specs.Sessions.{Bounds, AreAlgebras}
use Rattle.ua_reply.specs.Checks.{Passes, passed}
use Rattle.ua_reply.specs.Replies.{HasBytes, AnsweredOn}
use Rattle.ua_reply.proofs.CheckLaws.{known_step}
use Rattle.ua_reply.proofs.RepliesExist.{known_table, answered_on}
use Rattle.ua_answer_conditions.specs.CondCommand as words
use Rattle.ua_answer_conditions.specs.CondCommand.{nu_checks}
use Rattle.ua_chain.specs.declared.least_chains.NamedKind.TheVariants as asked
use Rattle.ua_answer_conditions.specs.Replied.{ConditionsReplied}
use Rattle.ua_answer_conditions.proofs.RepliesExist.{CanDecide, CanChain, named_condition, near_unanimous}
use Rattle.ua_answer_algebras.specs.CloseCommand.{close_checks}
use Rattle.ua_answer_algebras.specs.MemberCommand.{member_checks}
use Rattle.ua_answer_algebras.specs.Replied.{AlgebrasReplied}
use Rattle.ua_answer.specs.Certificates.{CertifiedClosure, CertifiedMembership, CertifiedCondition, CertifiedChain}
use Rattle.ua_answer.specs.inner.Questions.{HasFewVectors}
use Rattle.ua_answer.specs.Questions.{name_of, QuestionReply, CertReply, AskedReply}
use Rattle.ua_answer.specs.Few.{AreFew}
use Rattle.ua_answer.proofs.CertificatesExist.{closure_exists, membership_exists, condition_exists, chain_exists}

-- ---- what is known of a question

-- of what stands for its parts, the vectors
pub has_few : (what : Provable) (m : Mode) → AreFew (parts_of (question what m).0) (question what m).1 → HasFewVectors what
has_few (Close w width gens) m few = few.1.1.0
has_few (Member w width gens target) m few = few.1.1.0
has_few _ m few = tt

-- the condition of a word has three places
pub same_condition : (name : CondWord) → words.condition_of name ≡ condition_of (name_of name) 3
same_condition Maltsev = refl
same_condition Majority = refl
same_condition Minority = refl
same_condition Pixley = refl

pub three_places : (name : CondWord) → has_places (name_of name) 3 ≡ true
three_places Maltsev = refl
three_places Majority = refl
three_places Minority = refl
three_places Pixley = refl

-- a near-unanimity term that passes has so many places
pub places_of : (k : Number) → Passes (nu_checks k) → has_places conditions.Nu k.value ≡ true
places_of k h = known_step (nat_le 3 k.value && nat_le k.value 16) k.place h.range

-- ---- with a certificate

pub record CertLaws : Type 0 where
  pub closure : ClosureIsFlawless
  pub membership : MembershipIsFlawless
  pub condition : ConditionIsFlawless
  pub chain : ChainIsFlawless
  pub can_decide : CanDecide
  pub can_chain : CanChain

named : CertLaws → (s : List Block) (b : Bounds) (w : Word) (name : CondWord) → AreAlgebras s → 1 ≤ b.budget → HasBytes (CertReply s b (Cond w name))
named l s b w name algebras one =
    answered_on s w (λ k. passed) (λ k. CertifiedCondition k b (name_of name) 3) (λ k known passes.
    let table = known_table s w.name k algebras known in
    let may = l.can_decide k.algebra (words.condition_of name) b.budget b.workers table.algebra (named_condition name) in
    condition_exists l.condition k b (name_of name) 3 (three_places name)
    (subst (λ c. IsAnswerable (MayDecide k.algebra c b.budget b.workers) OutOfMemory) (same_condition name) may) table one)

-- a chain of this name can be told, with its certificate
chained : CertLaws → (name : ChainName) → ((a : FiniteAlgebra) (b w : ℕ) → IsAlgebra a → IsAnswerable (MayChain a (kind_of name) b w) OutOfMemory)
    → (s : List Block) (b : Bounds) (w : Word) → AreAlgebras s → 1 ≤ b.budget → HasBytes (AnsweredOn s w (λ k. passed) (λ k. CertifiedChain k b name))
chained l name can s b w algebras one =
    answered_on s w (λ k. passed) (λ k. CertifiedChain k b name) (λ k known passes.
    let table = known_table s w.name k algebras known in
    chain_exists l.chain k b name (can k.algebra b.budget b.workers table.algebra) table one)

pub cert_replied : CertLaws → (s : List Block) (b : Bounds) (what : Provable) → AreAlgebras s → 1 ≤ b.budget → HasBytes (CertReply s b what)
cert_replied l s b (Close w width gens) algebras one =
    answered_on s w (λ k. close_checks k width gens) (λ k. CertifiedClosure k b width gens) (λ k known passes.
    closure_exists l.closure k b width gens (known_table s w.name k algebras known) one passes)
cert_replied l s b (Member w width gens target) algebras one =
    answered_on s w (λ k. member_checks k width gens target) (λ k. CertifiedMembership k b width gens target) (λ k known passes.
    membership_exists l.membership k b width gens target (known_table s w.name k algebras known) one passes)
cert_replied l s b (Cond w name) algebras one = named l s b w name algebras one
cert_replied l s b (Nu w n) algebras one =
    answered_on s w (λ k. nu_checks n) (λ k. CertifiedCondition k b conditions.Nu n.value) (λ k known passes.
    let table = known_table s w.name k algebras known in
    let may = l.can_decide k.algebra (near_unanimity n.value) b.budget b.workers table.algebra (near_unanimous n passes) in
    condition_exists l.condition k b conditions.Nu n.value (places_of n passes) may table one)
cert_replied l s b (Jonsson w) algebras one = chained l chains.Jonsson (λ a. l.can_chain a asked.Jonsson) s b w algebras one
cert_replied l s b (Hm w) algebras one = chained l chains.Hm (λ a. l.can_chain a asked.HagemannMitschke) s b w algebras one

-- ---- by itself, or with a certificate

abbrev CertsReplied : Type 0
CertsReplied = (s : List Block) (b : Bounds) (what : Provable) → AreAlgebras s → 1 ≤ b.budget → HasBytes (CertReply s b what)

question_replied : ConditionsReplied → AlgebrasReplied → (s : List Block) (b : Bounds) (what : Provable) (m : Mode) → AreAlgebras s → HasBytes (QuestionReply s b what m)
question_replied c a s b (Close w width gens) m algebras = a.closure s b w width gens m algebras
question_replied c a s b (Member w width gens target) m algebras = a.membership s b w width gens target algebras
question_replied c a s b (Cond w name) m algebras = c.named s b w name algebras
question_replied c a s b (Nu w k) m algebras = c.near_unanimity s b w k algebras
question_replied c a s b (Jonsson w) m algebras = c.chain s b w asked.Jonsson algebras
question_replied c a s b (Hm w) m algebras = c.chain s b w asked.HagemannMitschke algebras

pub asked_replied : ConditionsReplied → AlgebrasReplied → CertsReplied → (s : List Block) (b : Bounds) (what : Provable) (m : Mode) (cert : Bool) → AreAlgebras s → 1 ≤ b.budget
    → HasBytes (AskedReply s b what m cert)
asked_replied c a certs s b what m true algebras one = certs s b what algebras one
asked_replied c a certs s b what m false algebras one = question_replied c a s b what m algebras
