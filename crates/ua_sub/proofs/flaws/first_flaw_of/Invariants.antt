use Rattle.ua_sub.proofs.FlawLaws.{IsAtTuple}
use Rattle.ua_sub.proofs.flaws.first_flaw_of.Given as goal

abbrev pub invariant-loop-value : goal.invariant-loop-value
invariant-loop-value l = IsAtTuple l.a l.b l.images l.op l.count l.value-index l.args
