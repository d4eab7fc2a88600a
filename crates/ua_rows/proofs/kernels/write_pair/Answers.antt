use Rattle.std.proofs.Common.{◌^◌, ◌≡◌, ◌-◌, ◌*◌, ◌/◌, ◌%◌, ◌++◌, ◌<◌, ◌≤◌, ℕ, List, length, map, take, drop, refl, ap, sym, ◌∙◌, subst, arith}
use Rattle.std.specs.Prelude.{replicate, slice_index}
use Rattle.std.specs.List.{AllByRecursion, range_with_len}
use Rattle.std.proofs.lemmas.List.{take_at, drop_all, append-nil, length-append}
use Rattle.std.proofs.Math.Nat.{mod-add-div', mod-lt}
use Rattle.ua_table.proofs.Lists.{all_append, all_take, all_replicate}
use Rattle.ua_rows.specs.Words.{words_for, padded, mix_of, lanes_of}
use Rattle.ua_rows.proofs.LineLaws.{looked_small}
use Rattle.ua_rows.proofs.WriteLaws.{last_word, written, sealed}
use Rattle.ua_rows.proofs.kernels.write_pair.Goals as goal

-- a width of two words
module _ (width : ℕ) (more : 4 < width) (two : width ≤ 8) where
  one_full : 1 ≡ (width - 1) / 4
  one_full =
      let whole = mod-add-div' (width - 1) 4 in
      let low : (width - 1) % 4 < 4 = mod-lt (width - 1) (let p : 0 < 4 = omega arith in p) in
      omega (arith, whole, low, more, two)

  two_words : 8 ≡ 4 * words_for width
  two_words = let w = (last_word width 1 (omega (arith, more)) one_full).0 in omega (arith, w)

-- two words, and nothing behind them
module _ (f : ℕ → ℕ) (a b : List ℕ) (width word : ℕ) (more : 4 < width) (two : width ≤ 8) (long : length a ≡ 4) (begun : a ≡ map f (range_with_len 0 4)) (fits : word < 2 ^ 64) (b_is : b ≡ lanes_of word)
    (ended : lanes_of word ≡ take (4 - (8 - width)) (map f (range_with_len 4 4)) ++ replicate (8 - width) 0) where
  first_four : take 4 (a ++ b) ≡ a
  first_four = take_at a b 4 long

  eight : length (a ++ b) ≡ 8
  eight = let l = length-append a b in let m = ap length b_is in omega (arith, l, long, m)

  put_last : a ++ b ≡ take 4 (a ++ b) ++ lanes_of word ++ drop 8 (a ++ b)
  put_last = sym (append-nil (a ++ b)) ∙ (λ j. (sym first_four j ++ b_is j) ++ sym (drop_all 8 (a ++ b) (omega (arith, eight))) j)

  values_are : a ++ b ≡ padded (map f (range_with_len 0 width))
  values_are = written f (a ++ b) (a ++ b) width 1 (8 - width) word (omega (arith, more)) (one_full width more two) (eight ∙ two_words width more two) refl (first_four ∙ begun) fits ended put_last

pub telling_hash-requires-clause-first : goal.telling_hash-requires-clause-first
telling_hash-requires-clause-first c =
    subst (AllByRecursion (λ x. x < 16)) (sym c.look_in_line-first.ensures.first) (looked_small c.args.line.now (lanes_of c.word_at.result) c.requires.line)

pub telling_hash-requires-clause-second : goal.telling_hash-requires-clause-second
telling_hash-requires-clause-second c =
    let last = subst (AllByRecursion (λ x. x < 16)) (sym c.look_in_line-first.ensures.second) (looked_small c.args.line.now (lanes_of c.word_at-2.result) c.requires.line) in
    let front = all_take (λ x. x < 16) (4 - (8 - c.args.width)) (lanes_of c.look_in_line-first.result.1) last in
    let zeros = all_replicate (λ x. x < 16) (8 - c.args.width) 0 (omega arith) in
    subst (AllByRecursion (λ x. x < 16)) (sym c.front_of-second.ensures) (all_append (λ x. x < 16) (take (4 - (8 - c.args.width)) (lanes_of c.look_in_line-first.result.1)) (replicate (8 - c.args.width) 0) front zeros)

pub returns-clause-values : goal.returns-clause-values
returns-clause-values c =
    let f : ℕ → ℕ = λ i. slice_index c.args.line.now (slice_index c.args.row.now i) in
    let looked = c.look_in_line-first.ensures.second ∙ ap (map (slice_index c.args.line.now)) c.word_at-2.ensures in
    let begun = c.look_in_line-first.ensures.first ∙ ap (map (slice_index c.args.line.now)) c.word_at.ensures in
    let ended = c.front_of-second.ensures ∙ ap (λ (bs : List ℕ). take (4 - (8 - c.args.width)) bs ++ replicate (8 - c.args.width) 0) looked in
    c.put_pair.ensures ∙ values_are f (lanes_of c.look_in_line-first.result.0) (lanes_of c.front_of-second.result) c.args.width c.front_of-second.result c.requires.more c.requires.two refl begun c.front_of-second.type_inv refl ended

pub returns-clause-hash : goal.returns-clause-hash
returns-clause-hash c =
    let v = map (λ i. slice_index c.args.line.now (slice_index c.args.row.now i)) (range_with_len 0 c.args.width) in
    sealed v (lanes_of c.look_in_line-first.result.0 ++ lanes_of c.front_of-second.result) (mix_of v) c.telling_hash.result (sym c.put_pair.ensures ∙ returns-clause-values c) refl (c.telling_hash.ensures (mix_of v))
