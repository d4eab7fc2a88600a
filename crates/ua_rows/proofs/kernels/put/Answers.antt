use Rattle.std.proofs.Common.{◌≡◌, ◌+◌, ◌-◌, ◌/◌, ◌%◌, ◌++◌, [], ◌∷◌, length, take, drop, sym, ap, ◌∙◌, arith}
use Rattle.std.specs.Simd.Lanes.{put_chunk, number_l, digits_l}
use Rattle.std.proofs.lemmas.List.{length-drop, length-take-le, take-append-drop}
use Rattle.std.proofs.lemmas.Simd.{put_chunk_whole}
use Rattle.std.proofs.lemmas.Slice.{take-put_mid, drop-put_mid}
use Rattle.ua_rows.specs.Words.{lanes_of}
use Rattle.ua_rows.proofs.kernels.put.Goals as goal

pub returns : goal.returns
returns c =
    let out = c.args.out.now in
    let i = c.args.i in
    let word = c.args.word in
    let number = number_l 256 (digits_l 256 8 (number_l 18446744073709551616 (word ∷ []))) in
    let entries = digits_l 65536 4 number in
    let part = take (i + 4 - i) (drop i out) in
    let fits = c.requires in
    let low = c.ranges.word.fits in
    let whole : number ≡ word = omega (arith, low) in
    let third : word / 65536 / 65536 % 65536 ≡ word / 4294967296 % 65536 = omega arith in
    let fourth : word / 65536 / 65536 / 65536 % 65536 ≡ word / 281474976710656 % 65536 = omega arith in
    let same : entries ≡ lanes_of word = ap (digits_l 65536 4) whole ∙ (λ l. word % 65536 ∷ word / 65536 % 65536 ∷ third l ∷ fourth l ∷ []) in
    let long : length part ≡ 4 = (let d = length-drop i out in length-take-le (i + 4 - i) (drop i out) (omega (arith, d, fits)) ∙ omega arith) in
    let ys = put_chunk 0 part entries in
    let are : ys ≡ lanes_of word = put_chunk_whole part entries long ∙ same in
    let count : length ys ≡ 4 = ap (length) are in
    sym (take-append-drop (i + 4) _)
    ∙ (λ l. take-put_mid i (i + 4 - i) out ys (i + 4) (omega (arith, count)) (omega (arith, fits)) l
    ++ drop-put_mid i (i + 4 - i) out ys (i + 4) (omega arith) (omega (arith, fits)) (omega (arith, count)) l)
    ∙ ap (λ zs. (take i out ++ zs) ++ drop (i + 4) out) are
