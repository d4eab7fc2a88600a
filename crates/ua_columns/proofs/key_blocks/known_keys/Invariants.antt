use Rattle.std.proofs.Common.{◌≡◌, ℕ, ◌<◌, ◌/◌, ◌%◌, ◌^◌}
use Rattle.ua_columns.specs.inner.Quads.{IsSomeKey}
use Rattle.ua_columns.proofs.key_blocks.known_keys.Given as goal

abbrev pub invariant-loop-r : goal.invariant-loop-r
invariant-loop-r l = record {
  below : l.bits < 2 ^ l.r;
  known : (k : ℕ) → k < l.r → l.bits / 2 ^ k % 2 ≡ 1 → IsSomeKey l.keys l.words l.count l.block k;
}
