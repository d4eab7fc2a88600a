use Rattle.std.proofs.Common.{◌≡◌, map, take}
use Rattle.ua_part.specs.Blocks.{members_of}
use Rattle.ua_reply.specs.Parts as parts
use Rattle.ua_reply.proofs.parts.blocks.Given as goal

abbrev pub invariant-loop-block : goal.invariant-loop-block
invariant-loop-block l = members_of l.blocks.items ≡ map parts.members_of (take l.block-index l.written)
