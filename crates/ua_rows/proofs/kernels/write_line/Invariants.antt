use Rattle.std.proofs.Common.{◌≡◌, ◌*◌, take, map}
use Rattle.std.specs.Prelude.{fold, slice_index}
use Rattle.std.specs.List.{range_with_len}
use Rattle.std.specs.Simd.{first_chunks}
use Rattle.ua_rows.specs.declared.words.TheConstants.{SEED}
use Rattle.ua_rows.specs.Words.{mixed, word_of}
use Rattle.ua_rows.proofs.kernels.write_line.Given as goal

abbrev pub invariant-loop-c : goal.invariant-loop-c
invariant-loop-c l = record {
  values : take (4 * l.c) l.out ≡ map (λ i. slice_index l.line (slice_index l.row i)) (range_with_len 0 (4 * l.c));
  hash : l.hash ≡ fold mixed SEED (map word_of (first_chunks 4 l.c l.out));
}
