use Rattle.std.proofs.Common.{◌≡◌, length, map, take}
use Rattle.std.specs.Prelude.{slice_index}
use Rattle.ua_type.proofs.quotients.related_places.Given as goal

abbrev pub invariant-loop-k : goal.invariant-loop-k
invariant-loop-k l = record { labels : l.labels.items ≡ map (slice_index l.p) (take l.k l.list); count : length l.labels.items ≡ l.k }
