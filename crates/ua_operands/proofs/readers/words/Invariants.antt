use Rattle.ua_operands.proofs.Vocabulary.{tokens_left}
use Rattle.std.proofs.Common.{length}
use Rattle.ua_operands.proofs.ReadLaws.{word_kind, AreRead}
use Rattle.ua_operands.proofs.readers.words.Given as goal

-- of words that stand there, those so far are read
abbrev pub invariant-loop-alloc : goal.invariant-loop-alloc
invariant-loop-alloc l = AreRead word_kind l.initial.tokens l.tokens l.words.items

abbrev pub decreases-loop-alloc : goal.decreases-loop-alloc
decreases-loop-alloc l = length (tokens_left l.tokens)
