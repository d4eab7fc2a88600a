-- Congruences as operands: the partition that is written, or its first clash.
use Rattle.std.specs.Prelude.{◌≡◌, ◌⊎◌, ℕ, List}
use Rattle.ua_part.specs.Partitions.{Partition}
use Rattle.ua_part.specs.Blocks.{HasBlocks}
use Rattle.ua_prod.specs.declared.clashes.Clash.{Clash}
use Rattle.ua_prod.specs.Congruences.{IsCongruence}
use Rattle.ua_prod.specs.Clashes.{IsFirstClash}
use Rattle.ua_text.specs.declared.named.Block.{Block}
use Rattle.ua_operands.specs.declared.written.PartText.{PartText}
use Rattle.ua_reply.specs.Parts.{blocks_of}
use Rattle.ua_reply.specs.Refusals.{congruence_text}

-- the partition is no congruence, and the bytes tell its first clash
pub record IsRefused (k : Block) (p : PartText) (partition : Partition) (bytes : List ℕ) : Type 0 where
  pub clash : Clash
  pub first : IsFirstClash k.algebra partition clash
  pub text : bytes ≡ congruence_text k p.place clash

-- what is answered of the congruence that is written, where the partition is one
pub record OfCongruence (k : Block) (p : PartText) (Answer : Partition → List ℕ → Type 0) (bytes : List ℕ) : Type 0 where
  pub partition : Partition
  pub blocks : HasBlocks (blocks_of p) partition
  pub answered : IsRefused k p partition bytes ⊎ (IsCongruence k.algebra partition × Answer partition bytes)
