use Rattle.std.proofs.Common.{◌≡◌, ◌+◌, ◌*◌, ◌/◌, ◌%◌, [], map, slice_index_or, slice_range, length-set, ◌∙◌, arith}
use Rattle.std.specs.List.{range_with_len}
use Rattle.std.specs.Prelude.{slice_set}
use Rattle.std.proofs.lemmas.List.{get_or-set_same, get_or-set_other}
use Rattle.ua_columns.specs.inner.Tiles.{byte_word_at}
use Rattle.ua_columns.proofs.TileLaws.{one_more}
use Rattle.ua_columns.proofs.blocks.write_byte_words.Goals as goal

pub loop-j-preserved : goal.loop-j-preserved
loop-j-preserved c =
    let out = c.loop-j.out in
    let words = c.byte_words-words.result in
    let j = c.loop-j.j in
    record {
      within = omega (arith, length-set out j words);
      words = one_more (λ k. slice_index_or (slice_set out j words) k [] ≡ map (byte_word_at (slice_range c.args.lines.now (4 * (k / 2)) (4 * (k / 2) + 4)) (slice_index_or c.args.tiles.now (k / 2) []) (8 * (k % 2))) (range_with_len 0 16)) j
          (λ k low. get_or-set_other out j k words [] (λ e. omega (arith, e, low)) ∙ c.loop-j.invariant.words k low)
          (get_or-set_same out j words [] (omega arith) ∙ c.byte_words-words.ensures);
    }
