-- Questions, the commands that `cert` may precede: where their operands fail, and what they are answered.
use Rattle.std.specs.Prelude.{ℕ, Bool, true, false, List}
use Rattle.ua_cert.specs.declared.certs.CondName.{CondName}
use Rattle.ua_cert.specs.declared.certs.CondName.TheVariants as conditions
use Rattle.ua_cert.specs.declared.certs.ChainName.TheVariants as chains
use Rattle.ua_operands.specs.declared.written.Word.{Word}
use Rattle.ua_operands.specs.declared.written.Mode.{Mode}
use Rattle.ua_operands.specs.declared.written.CondWord.{CondWord}
use Rattle.ua_operands.specs.declared.written.CondWord.TheVariants.{Maltsev, Majority, Minority, Pixley}
use Rattle.ua_script.specs.declared.script.Provable.{Provable}
use Rattle.ua_script.specs.declared.script.Provable.TheVariants.{Close, Member, Cond, Nu, Jonsson, Hm}
use Rattle.ua_text.specs.declared.named.Block.{Block}
use Rattle.ua_reply.specs.Sessions.{Bounds}
use Rattle.ua_reply.specs.Checks.{Checks, passed}
use Rattle.ua_reply.specs.Replies.{AnsweredOn}
use Rattle.ua_answer_conditions.specs.CondCommand.{nu_checks, CondReply, NuReply}
use Rattle.ua_chain.specs.declared.least_chains.NamedKind.TheVariants as asked
use Rattle.ua_answer_conditions.specs.ChainCommand.{ChainReply}
use Rattle.ua_answer_algebras.specs.CloseCommand.{close_checks, CloseReply}
use Rattle.ua_answer_algebras.specs.MemberCommand.{member_checks, MemberReply}
use Rattle.ua_answer.specs.Certificates.{CertifiedClosure, CertifiedMembership, CertifiedCondition, CertifiedChain}

-- the algebra that a question is about
abbrev pub algebra_of : Provable → Word
algebra_of (Close w width gens) = w
algebra_of (Member w width gens target) = w
algebra_of (Cond w name) = w
algebra_of (Nu w k) = w
algebra_of (Jonsson w) = w
algebra_of (Hm w) = w

-- where its operands fail
abbrev pub question_checks : Block → Provable → Checks
question_checks k (Close w width gens) = close_checks k width gens
question_checks k (Member w width gens target) = member_checks k width gens target
question_checks k (Nu w arity) = nu_checks arity
question_checks k _ = passed

-- what it is answered by itself; only a closure has another mode than the plain one
abbrev pub QuestionReply : List Block → Bounds → Provable → Mode → List ℕ → Type 0
QuestionReply s b (Close w width gens) m bytes = CloseReply s b w width gens m bytes
QuestionReply s b (Member w width gens target) m bytes = MemberReply s b w width gens target bytes
QuestionReply s b (Cond w name) m bytes = CondReply s b w name bytes
QuestionReply s b (Nu w k) m bytes = NuReply s b w k bytes
QuestionReply s b (Jonsson w) m bytes = ChainReply s b w asked.Jonsson bytes
QuestionReply s b (Hm w) m bytes = ChainReply s b w asked.HagemannMitschke bytes

-- the name of a condition in a certificate
abbrev pub name_of : CondWord → CondName
name_of Maltsev = conditions.Maltsev
name_of Majority = conditions.Majority
name_of Minority = conditions.Minority
name_of Pixley = conditions.Pixley

-- what it is answered, certified
abbrev pub Certified : Block → Bounds → Provable → List ℕ → Type 0
Certified k b (Close w width gens) bytes = CertifiedClosure k b width gens bytes
Certified k b (Member w width gens target) bytes = CertifiedMembership k b width gens target bytes
Certified k b (Cond w name) bytes = CertifiedCondition k b (name_of name) 3 bytes
Certified k b (Nu w arity) bytes = CertifiedCondition k b conditions.Nu arity.value bytes
Certified k b (Jonsson w) bytes = CertifiedChain k b chains.Jonsson bytes
Certified k b (Hm w) bytes = CertifiedChain k b chains.Hm bytes

-- cert close NAME WIDTH [..] .., and so on
abbrev pub CertReply : List Block → Bounds → Provable → List ℕ → Type 0
CertReply s b what bytes = AnsweredOn s (algebra_of what) (λ k. question_checks k what) (λ k. Certified k b what) bytes

-- with `cert` before it, or by itself
abbrev pub AskedReply : List Block → Bounds → Provable → Mode → Bool → List ℕ → Type 0
AskedReply s b what m true bytes = CertReply s b what bytes
AskedReply s b what m false bytes = QuestionReply s b what m bytes
