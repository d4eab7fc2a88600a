use Rattle.std.proofs.Common.{◌≡◌, ◌+◌, ◌*◌, ◌≤◌, ◌++◌, length}
use Rattle.ua_table.specs.declared.limits.TheConstants.{SIZE}
use Rattle.ua_matrix.proofs.GeneratorLaws.{matrices_of, pairs_of_front}
use Rattle.ua_matrix.proofs.generators.add_pairs.Given as goal

abbrev pub invariant-loop-x : goal.invariant-loop-x
invariant-loop-x l = record {
  width : l.gens.width ≡ 4;
  few : length l.gens.items ≤ length l.fn.gens.items + l.x * SIZE;
  items : l.gens.items ≡ l.fn.gens.items ++ matrices_of l.is_alpha (pairs_of_front l.part l.x);
}
