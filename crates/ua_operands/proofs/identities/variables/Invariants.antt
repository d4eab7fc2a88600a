use Rattle.ua_operands.proofs.Vocabulary.{tokens_left}
use Rattle.std.proofs.Common.{length}
use Rattle.ua_operands.proofs.ReadLaws.{variable_kind, AreRead}
use Rattle.ua_operands.proofs.identities.variables.Given as goal

-- of variables that stand there, those so far are read
abbrev pub invariant-loop-tokens : goal.invariant-loop-tokens
invariant-loop-tokens l = AreRead variable_kind l.initial.tokens l.tokens l.variables.items

abbrev pub decreases-loop-tokens : goal.decreases-loop-tokens
decreases-loop-tokens l = length (tokens_left l.tokens)
