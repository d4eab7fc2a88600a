use Rattle.std.proofs.Common.{◌≡◌, ℕ, ◌+◌, ◌-◌, length, reverse}
use Rattle.ua_climb.specs.Networks.{Network}
use Rattle.ua_climb.specs.inner.Networks.{IsWalk}
use Rattle.ua_climb.specs.inner.Marks.{IsTrail, IsLine}
use Rattle.ua_climb.proofs.searches.walk_back.Given as goal

abbrev pub invariant-loop : goal.invariant-loop
invariant-loop l = record {
  line : IsLine l.from l.state (l.links - l.counter);
  count : length l.walk.items ≡ l.counter + 1;
  back : (g : Network) (start : ℕ) → IsTrail g l.from start l.end l.links → IsTrail g l.from start l.state (l.links - l.counter) × IsWalk g l.state l.end (reverse l.walk.items);
}
