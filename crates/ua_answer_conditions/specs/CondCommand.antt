-- The commands `cond` and `nu`: where their operands fail, and what they are answered.
use Rattle.std.specs.Prelude.{ℕ, nat_le, ◌&&◌, List}
use Rattle.ua_identity.specs.declared.limits.TheConstants.{PLACES, NEAR_UNANIMITY}
use Rattle.ua_identity.specs.Conditions.{TermCondition, maltsev, majority, minority, pixley, near_unanimity}
use Rattle.ua_cond.specs.Permitted.{MayDecide}
use Rattle.ua_text.specs.declared.named.Block.{Block}
use Rattle.ua_operands.specs.declared.written.Word.{Word}
use Rattle.ua_operands.specs.declared.written.Number.{Number}
use Rattle.ua_operands.specs.declared.written.CondWord.{CondWord}
use Rattle.ua_operands.specs.declared.written.CondWord.TheVariants.{Maltsev, Majority, Minority, Pixley}
use Rattle.ua_reply.specs.Sessions.{Bounds}
use Rattle.ua_reply.specs.Checks.{Checks, passed, range_at, unless}
use Rattle.ua_reply.specs.Closures.{member_text, told}
use Rattle.ua_reply.specs.Replies.{Says, AnsweredOn}

-- the condition of this word
abbrev pub condition_of : CondWord → TermCondition
condition_of Maltsev = maltsev
condition_of Majority = majority
condition_of Minority = minority
condition_of Pixley = pixley

-- nu NAME K: as many variables as a near-unanimity term may have
abbrev pub nu_checks : Number → Checks
nu_checks k = range_at (unless (nat_le NEAR_UNANIMITY k.value && nat_le k.value PLACES) k.place)

-- steps of a term that meets the condition, or the rows where there is none
abbrev pub ConditionAnswer : Block → Bounds → TermCondition → List ℕ → Type 0
ConditionAnswer k b c bytes = Says (MayDecide k.algebra c b.budget b.workers) (told (member_text k b.budget)) bytes

-- cond NAME maltsev, and so on
abbrev pub CondReply : List Block → Bounds → Word → CondWord → List ℕ → Type 0
CondReply s b w name bytes = AnsweredOn s w (λ k. passed) (λ k. ConditionAnswer k b (condition_of name)) bytes

abbrev pub NuReply : List Block → Bounds → Word → Number → List ℕ → Type 0
NuReply s b w k bytes = AnsweredOn s w (λ known. nu_checks k) (λ known. ConditionAnswer known b (near_unanimity k.value)) bytes
