use Rattle.std.proofs.Common.{◌≡◌, ◌+◌, ◌++◌, ℕ, length}
use Rattle.std.specs.List.{AllByRecursion, flat_map}
use Rattle.std.specs.Vec.Iter.{into_iter_items, into_iter_len}
use Rattle.ua_table.specs.Counting.{times}
use Rattle.ua_jobs.specs.declared.serving.Served.{Served}
use Rattle.ua_jobs.specs.Seats.{with_view}
use Rattle.ua_jobs.specs.Harvests.{numbers_of}
use Rattle.ua_jobs.specs.inner.Batches.{IsOtherHarvest, joined_times}
use Rattle.ua_jobs.proofs.gathering.join_all.Given as goal

abbrev pub invariant-harvests : goal.invariant-harvests
invariant-harvests g l = record {
  pass : l.first ≡ with_view l.fn.first (record l.fn.first.own { joined = l.first.own.joined });
  count : length l.first.own.joined + length (into_iter_items l.rest) ≡ length l.fn.harvests.items;
  answers : l.answers.items ++ flat_map (λ (s : Served g.row.O.Denot). s.answers.items) (into_iter_items l.rest) ≡ flat_map (λ (s : Served g.row.O.Denot). s.answers.items) l.fn.harvests.items;
  numbers : (x : ℕ) → times x (numbers_of l.answers.items) ≡ joined_times x l.first.own;
  rest : AllByRecursion (IsOtherHarvest l.queue l.fn.first.own.jobs) (into_iter_items l.rest);
}

abbrev pub decreases-harvests : goal.decreases-harvests
decreases-harvests g l = into_iter_len l.rest
