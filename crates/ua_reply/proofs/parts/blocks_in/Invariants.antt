use Rattle.std.proofs.Common.{take}
use Rattle.ua_reply.specs.Checks.{AreFirst, all_in}
use Rattle.ua_reply.specs.Parts.{block_in}
use Rattle.ua_reply.proofs.parts.blocks_in.Given as goal

abbrev pub invariant-loop-block : goal.invariant-loop-block
invariant-loop-block l = AreFirst (all_in (block_in l.known) (take l.block-index l.blocks)) l.errors
