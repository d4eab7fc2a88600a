-- What is answered of a partition that is a congruence, and of one that is none.
use Rattle.std.proofs.Common.{ℕ, List, inl, inr}
use Rattle.ua_part.specs.Partitions.{Partition}
use Rattle.ua_part.specs.Blocks.{HasBlocks}
use Rattle.ua_prod.specs.Congruences.{IsCongruence}
use Rattle.ua_text.specs.declared.named.Block.{Block}
use Rattle.ua_operands.specs.declared.written.PartText.{PartText}
use Rattle.ua_reply.specs.Parts.{blocks_of}
use Rattle.ua_answer_congruences.specs.Congruences.{OfCongruence}
use Rattle.ua_answer_congruences.specs.inner.Operands.{IsRefusedOperand}

pub of_congruence : (k : Block) (p : PartText) (Answer : Partition → List ℕ → Type 0) (partition : Partition) (bytes : List ℕ)
    → HasBlocks (blocks_of p) partition → IsCongruence k.algebra partition → Answer partition bytes → OfCongruence k p Answer bytes
of_congruence k p Answer partition bytes blocks is answer = record { partition = partition; blocks = blocks; answered = inr (is, answer) }

pub of_refused : (k : Block) (p : PartText) (Answer : Partition → List ℕ → Type 0) (bytes : List ℕ) → IsRefusedOperand k p bytes → OfCongruence k p Answer bytes
of_refused k p Answer bytes operand = record { partition = operand.partition; blocks = operand.blocks; answered = inl operand.refused }
