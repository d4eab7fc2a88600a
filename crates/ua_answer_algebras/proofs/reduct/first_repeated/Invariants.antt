use Rattle.std.proofs.Common.{◌≡◌, ◌≤◌, ◌+◌, ◌==◌, ℕ, false, List, [], length, drop, get_or}
use Rattle.std.specs.List.{list_any}
use Rattle.ua_table.specs.declared.limits.TheConstants.{OPERATIONS}
use Rattle.ua_term.specs.Meanings.{first_place}
use Rattle.ua_answer_algebras.specs.MakeCommand.{repeated}
use Rattle.ua_answer_algebras.proofs.reduct.first_repeated.Given as goal

-- the operations before, which are marked, and the first place among the names to come
abbrev pub invariant-loop-name : goal.invariant-loop-name
invariant-loop-name l = record {
  before : List ℕ;
  long : length l.seen ≡ OPERATIONS + 1;
  marks : (f : ℕ) → f ≤ OPERATIONS → get_or l.seen f false ≡ list_any (λ g. g == f) before;
  rest : first_place (repeated l.known [] l.names) ≡ first_place (repeated l.known before (drop l.name-index l.names));
}
