-- The command `member`: where its operands fail, and what it is answered.
use Rattle.std.specs.Prelude.{ℕ, List}
use Rattle.ua_table.specs.Algebras.{Vector}
use Rattle.ua_operands.specs.declared.written.Word.{Word}
use Rattle.ua_operands.specs.declared.written.Number.{Number}
use Rattle.ua_operands.specs.declared.written.Items.{Items}
use Rattle.ua_close.specs.Permitted.{MayMember}
use Rattle.ua_text.specs.declared.named.Block.{Block}
use Rattle.ua_reply.specs.Sessions.{Bounds}
use Rattle.ua_reply.specs.Checks.{Checks, ◌and◌}
use Rattle.ua_reply.specs.Operands.{values_of, vectors_of, power_of, positive, vector_in, vectors_in}
use Rattle.ua_reply.specs.Closures.{member_text, told}
use Rattle.ua_reply.specs.Replies.{Says, AnsweredOn}

-- member NAME WIDTH [..] .. = [..]
abbrev pub member_checks : Block → Number → List Items → Items → Checks
member_checks k width gens target = positive width and vectors_in k width.value gens and vector_in k width.value target

abbrev pub MemberAnswer : Block → Bounds → ℕ → List Vector → Vector → List ℕ → Type 0
MemberAnswer k b width gens v bytes = Says (MayMember (power_of k width) gens v b.budget b.workers) (told (member_text k b.budget)) bytes

abbrev pub MemberReply : List Block → Bounds → Word → Number → List Items → Items → List ℕ → Type 0
MemberReply s b w width gens target bytes =
    AnsweredOn s w (λ k. member_checks k width gens target) (λ k. MemberAnswer k b width.value (vectors_of k gens) (values_of k target)) bytes
