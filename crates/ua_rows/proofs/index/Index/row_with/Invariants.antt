use Rattle.std.proofs.Common.{◌≡◌, length}
use Rattle.ua_rows.specs.declared.index.Entry.{Entry}
use Rattle.ua_rows.specs.Indexing.{slot_of, IsBehind, AllBefore}
use Rattle.ua_rows.proofs.index.Index.row_with.Given as goal

abbrev pub invariant-loop : goal.invariant-loop
invariant-loop l = record {
  behind : IsBehind (length l.buckets) (slot_of (length l.buckets) l.tag) l.counter l.bucket;
  other : AllBefore (λ (e : Entry). ¬ (e.tag ≡ l.tag)) l.buckets (slot_of (length l.buckets) l.tag) l.counter;
}
