use Rattle.std.proofs.Common.{◌≡◌, ◌++◌, take}
use Rattle.ua_reply.specs.Texts.{lines}
use Rattle.ua_answer_algebras.specs.HomCommand.{image_text}
use Rattle.ua_answer_algebras.proofs.hom.push_images.Given as goal

abbrev pub invariant-loop-pair : goal.invariant-loop-pair
invariant-loop-pair l = l.out.items ≡ l.fn.out.items ++ lines (image_text l.first l.second) (take l.pair-index l.pairs)
