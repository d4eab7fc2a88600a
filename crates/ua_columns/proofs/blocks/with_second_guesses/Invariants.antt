use Rattle.std.proofs.Common.{◌≡◌, ℕ, ◌<◌, ◌/◌, ◌%◌, ◌^◌, length}
use Rattle.ua_columns.specs.inner.Tiles.{IsSomeKeyAt}
use Rattle.ua_columns.proofs.blocks.with_second_guesses.Given as goal

abbrev pub invariant-loop-r : goal.invariant-loop-r
invariant-loop-r l = record {
  below : l.more < 2 ^ l.r;
  known : (k : ℕ) → k < l.r → l.more / 2 ^ k % 2 ≡ 1 → IsSomeKeyAt l.keys (length l.values) l.count l.values k;
}
