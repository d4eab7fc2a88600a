use Rattle.std.proofs.Common.{◌≡◌, take, drop, map}
use Rattle.std.specs.List.{enumerate_from}
use Rattle.ua_table.specs.Refusals.{first_refusal}
use Rattle.ua_flaws.specs.Steps.{origins_of}
use Rattle.ua_check.specs.Chains.{terms_flaw, term_flaw}
use Rattle.ua_check.proofs.chains.read_terms.Given as goal

-- no term so far has a flaw
abbrev pub invariant-loop-i : goal.invariant-loop-i
invariant-loop-i l = record {
  rest : terms_flaw l.a 3 l.terms ≡ first_refusal (map (term_flaw l.a 3) (enumerate_from l.i (drop l.i l.terms)));
  read : l.list.items ≡ map (origins_of l.a) (take l.i l.terms);
}
