use Rattle.ua_part.specs.Blocks.{members_of}
use Rattle.ua_part.proofs.TextLaws.{AreTexts}
use Rattle.ua_part.proofs.text.block_texts.Given as goal

abbrev pub invariant-loop-member : goal.invariant-loop-member
invariant-loop-member l = AreTexts l.part l.member (members_of l.texts.items)
