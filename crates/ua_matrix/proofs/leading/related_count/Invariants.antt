use Rattle.std.proofs.Common.{◌≡◌, ◌≤◌, ◌*◌, length}
use Rattle.ua_table.specs.declared.limits.TheConstants.{SIZE}
use Rattle.ua_matrix.proofs.GeneratorLaws.{pairs_of_front}
use Rattle.ua_matrix.proofs.leading.related_count.Given as goal

abbrev pub invariant-loop-x : goal.invariant-loop-x
invariant-loop-x l = record {
  counted : l.count ≡ length (pairs_of_front l.part l.x);
  low : l.count ≤ l.x * SIZE;
}
