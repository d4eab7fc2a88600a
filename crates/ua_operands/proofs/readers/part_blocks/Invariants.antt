use Rattle.ua_operands.proofs.Vocabulary.{tokens_left}
use Rattle.std.proofs.Common.{length}
use Rattle.ua_operands.proofs.ReadLaws.{block_kind, AreRead}
use Rattle.ua_operands.proofs.readers.part_blocks.Given as goal

-- of blocks that stand there, those so far are read
abbrev pub invariant-loop-alloc : goal.invariant-loop-alloc
invariant-loop-alloc l = AreRead block_kind l.initial.tokens l.tokens l.blocks.items

abbrev pub decreases-loop-alloc : goal.decreases-loop-alloc
decreases-loop-alloc l = length (tokens_left l.tokens)
