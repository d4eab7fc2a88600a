use Rattle.std.proofs.Common.{◌≡◌, map, take, length}
use Rattle.std.specs.Prelude.{slice_index}
use Rattle.ua_check.proofs.values.applied.Given as goal

-- the values at the arguments so far
abbrev pub invariant-loop-j : goal.invariant-loop-j
invariant-loop-j l = record {
  four : length l.entries ≡ 4;
  done : take l.j l.entries ≡ map (slice_index l.values) (take l.j l.args);
}
