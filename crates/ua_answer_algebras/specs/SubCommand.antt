-- The command `sub`: where its operand fails, and what it is answered.
use Rattle.std.specs.Prelude.{ℕ, List, Some}
use Rattle.ua_sub.specs.Members.{AreMembers}
use Rattle.ua_operands.specs.declared.written.Word.{Word}
use Rattle.ua_operands.specs.declared.written.Items.{Items}
use Rattle.ua_text.specs.declared.named.Block.{Block}
use Rattle.ua_reply.specs.Operands.{values_of, elements_in}
use Rattle.ua_reply.specs.Replies.{Says, AnsweredOn}
use Rattle.ua_reply.specs.Texts.{line, set_text}

-- the elements that these generate
abbrev pub SubAnswer : Block → List ℕ → List ℕ → Type 0
SubAnswer k gens bytes = Says (AreMembers k.algebra gens) (λ members. Some (line (set_text k members))) bytes

-- sub NAME [..]
abbrev pub SubReply : List Block → Word → Items → List ℕ → Type 0
SubReply s w set bytes = AnsweredOn s w (λ k. elements_in k set.values) (λ k. SubAnswer k (values_of k set)) bytes
