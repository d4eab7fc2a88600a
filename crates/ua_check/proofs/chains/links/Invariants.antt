use Rattle.std.proofs.Common.{◌≡◌, map, drop, length}
use Rattle.ua_table.specs.Algebras.{arities_of}
use Rattle.ua_term.specs.Steps.{written_term}
use Rattle.ua_flaws.specs.Firsts.{first_bad}
use Rattle.ua_check.specs.Chains.{is_in_chain}
use Rattle.ua_check.proofs.chains.links.Given as goal

-- the terms so far are as they should be
abbrev pub invariant-loop-i : goal.invariant-loop-i
invariant-loop-i l = record {
  room : length l.values ≡ length l.fn.values;
  rest : first_bad (is_in_chain l.a l.kind (map (written_term (arities_of l.a)) l.terms)) 0 (map (written_term (arities_of l.a)) l.terms)
      ≡ first_bad (is_in_chain l.a l.kind (map (written_term (arities_of l.a)) l.terms)) l.i (drop l.i (map (written_term (arities_of l.a)) l.terms));
}
