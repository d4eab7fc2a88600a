use Rattle.ua_operands.proofs.Vocabulary.{tokens_left}
use Rattle.std.proofs.Common.{length}
use Rattle.ua_operands.proofs.ReadLaws.{identity_kind, AreRead}
use Rattle.ua_operands.proofs.identities.identities.Given as goal

-- of identities that stand there, those so far are read
abbrev pub invariant-loop-alloc : goal.invariant-loop-alloc
invariant-loop-alloc l = AreRead identity_kind l.initial.tokens l.tokens l.identities.items

abbrev pub decreases-loop-alloc : goal.decreases-loop-alloc
decreases-loop-alloc l = length (tokens_left l.tokens)
