-- The command `free`: where its operand fails, and what it is answered, which is what `close` is.
use Rattle.std.specs.Prelude.{ℕ, List}
use Rattle.ua_term.specs.Assignments.{projections, power_of_assignments}
use Rattle.ua_operands.specs.declared.written.Word.{Word}
use Rattle.ua_operands.specs.declared.written.Number.{Number}
use Rattle.ua_operands.specs.declared.written.Mode.{Mode}
use Rattle.ua_text.specs.declared.named.Block.{Block}
use Rattle.ua_reply.specs.Sessions.{Bounds}
use Rattle.ua_reply.specs.Operands.{variables_checks}
use Rattle.ua_reply.specs.Replies.{AnsweredOn}
use Rattle.ua_answer_algebras.specs.CloseCommand.{ClosureAnswer}

-- free NAME K
abbrev pub FreeReply : List Block → Bounds → Word → Number → Mode → List ℕ → Type 0
FreeReply s b w count m bytes =
    AnsweredOn s w (λ k. variables_checks count) (λ k. ClosureAnswer k b (power_of_assignments k.algebra count.value) (projections k.algebra.size count.value) m) bytes
