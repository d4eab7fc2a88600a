-- The command `cg`: where its operands fail, and what it is answered.
use Rattle.std.specs.Prelude.{ℕ, List, Some}
use Rattle.ua_part.specs.Blocks.{partition_text}
use Rattle.ua_prod.specs.Congruences.{IsCg}
use Rattle.ua_operands.specs.declared.written.Word.{Word}
use Rattle.ua_operands.specs.declared.written.Items.{Items}
use Rattle.ua_text.specs.declared.named.Block.{Block}
use Rattle.ua_reply.specs.Operands.{vectors_in, pairs_of}
use Rattle.ua_reply.specs.Replies.{Says, AnsweredOn}
use Rattle.ua_reply.specs.Texts.{line}

-- the congruence that the pairs generate
abbrev pub CgAnswer : Block → List (ℕ × ℕ) → List ℕ → Type 0
CgAnswer k pairs bytes = Says (IsCg k.algebra pairs) (λ congruence. Some (line (partition_text congruence))) bytes

-- cg NAME [..] ..
abbrev pub CgReply : List Block → Word → List Items → List ℕ → Type 0
CgReply s w pairs bytes = AnsweredOn s w (λ k. vectors_in k 2 pairs) (λ k. CgAnswer k (pairs_of k pairs)) bytes
