use Rattle.std.proofs.Common.{◌+◌, ◌≤◌, length, take}
use Rattle.std.specs.List.{AllByRecursion}
use Rattle.ua_cong.specs.Known.{IsKnown}
use Rattle.ua_cong.specs.inner.Principals.{HasPrincipal}
use Rattle.ua_cong.proofs.pairs.settle_all.Given as goal

abbrev pub invariant-loop-i : goal.invariant-loop-i
invariant-loop-i l = record {
  known : IsKnown l.a l.known;
  within : length l.known.rows.items ≤ l.bound;
  few : length l.known.rows.items ≤ length l.fn.known.rows.items + l.i;
  there : AllByRecursion (HasPrincipal l.a l.known.rows.items) (take l.i l.pairs);
}
