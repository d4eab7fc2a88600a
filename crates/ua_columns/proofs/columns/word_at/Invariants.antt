use Rattle.std.proofs.Common.{◌≡◌, ◌≤◌, ◌+◌, map, drop}
use Rattle.std.specs.List.{range_with_len}
use Rattle.std.specs.Simd.Lanes.{number_l}
use Rattle.ua_columns.specs.Columns.{digits, base, entry_of}
use Rattle.ua_columns.proofs.columns.word_at.Given as goal

abbrev pub invariant-loop-c : goal.invariant-loop-c
invariant-loop-c l = record {
  to_base : l.radix ≡ base l.in_bytes;
  within : l.c ≤ digits l.in_bytes;
  word : l.word ≡ number_l (base l.in_bytes) (drop l.c (map (λ c. entry_of l.block l.lane (l.first + c)) (range_with_len 0 (digits l.in_bytes))));
}

abbrev pub decreases-loop-c : goal.decreases-loop-c
decreases-loop-c l = l.c
