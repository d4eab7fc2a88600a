-- Congruences that are read, or what is told where there is none.
use Rattle.std.specs.Prelude.{ℕ, List}
use Rattle.ua_part.specs.Partitions.{Partition}
use Rattle.ua_part.specs.Blocks.{HasBlocks}
use Rattle.ua_prod.specs.Congruences.{IsCongruence}
use Rattle.ua_text.specs.declared.named.Block.{Block}
use Rattle.ua_operands.specs.declared.written.PartText.{PartText}
use Rattle.ua_reply.specs.Parts.{blocks_of}
use Rattle.ua_answer_congruences.specs.declared.congruences.Operand.{Operand}
use Rattle.ua_answer_congruences.specs.declared.congruences.Operand.TheVariants as operands
use Rattle.ua_answer_congruences.specs.Congruences.{IsRefused}

-- the partition that is written, which is no congruence
pub record IsRefusedOperand (k : Block) (p : PartText) (bytes : List ℕ) : Type 0 where
  pub partition : Partition
  pub blocks : HasBlocks (blocks_of p) partition
  pub refused : IsRefused k p partition bytes

-- the congruence that is written, or what is told of a partition that is none
abbrev pub IsOperand : Block → PartText → Operand → Type 0
IsOperand k p (operands.Congruence partition) = HasBlocks (blocks_of p) partition × IsCongruence k.algebra partition
IsOperand k p (operands.Refused bytes) = IsRefusedOperand k p bytes.items
