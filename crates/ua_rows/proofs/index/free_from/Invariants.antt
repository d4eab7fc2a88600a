use Rattle.std.proofs.Common.{length}
use Rattle.ua_rows.specs.Indexing.{IsBehind, AreTaken}
use Rattle.ua_rows.proofs.index.free_from.Given as goal

abbrev pub invariant-loop : goal.invariant-loop
invariant-loop l = record {
  behind : IsBehind (length l.buckets) l.slot l.counter l.bucket;
  taken : AreTaken l.buckets l.slot l.counter;
}
