use Rattle.std.proofs.Common.{◌≡◌, ◌++◌, drop}
use Rattle.ua_answer_conditions.specs.ChainCommand.{terms_text}
use Rattle.ua_answer_conditions.proofs.chains.push_terms.Given as goal

-- the text so far, and that of the terms that are left
abbrev pub invariant-loop-i : goal.invariant-loop-i
invariant-loop-i l = l.out.items ++ terms_text l.known l.i (drop l.i l.terms) ≡ l.fn.out.items ++ terms_text l.known 0 l.terms
