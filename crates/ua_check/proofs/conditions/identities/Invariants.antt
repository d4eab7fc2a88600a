use Rattle.std.proofs.Common.{◌≡◌, length}
use Rattle.ua_table.specs.Algebras.{arities_of}
use Rattle.ua_term.specs.Steps.{written_term}
use Rattle.ua_check.specs.Conditions.{identities_flaw, failure_flaw}
use Rattle.ua_check.proofs.EnumLaws.{left}
use Rattle.ua_check.proofs.conditions.identities.Given as goal

-- no identity so far fails
abbrev pub invariant-loop-i : goal.invariant-loop-i
invariant-loop-i l = record {
  room : length l.values ≡ length l.fn.values;
  rest : identities_flaw l.a l.condition.identities (written_term (arities_of l.a) l.steps) ≡ left (failure_flaw l.a (written_term (arities_of l.a) l.steps)) l.condition.identities l.i;
}
