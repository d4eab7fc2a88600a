use Rattle.std.proofs.Common.{◌≡◌, ℕ, ◌+◌, ◌<◌, [], ◌∷◌, ap, ◌∙◌, arith}
use Rattle.std.specs.Simd.Lanes.{number_l}
use Rattle.ua_columns.specs.inner.Tiles.{word_across, looked_across, byte_word_at}
use Rattle.ua_columns.proofs.ByteLaws.{lane_across}
use Rattle.ua_columns.proofs.tiles.byte_words.Goals as goal

pub returns : goal.returns
returns c =
    let lines = c.args.lines.now in
    let columns = c.args.columns.now in
    let n = c.args.first in
    let itself : n ≡ n + 0 = omega arith in
    let at : (r : ℕ) → r < 16
    → word_across
    (c.looked_across.result ∷ c.looked_across-2.result ∷ c.looked_across-3.result ∷ c.looked_across-4.result ∷ c.looked_across-5.result
    ∷ c.looked_across-6.result ∷ c.looked_across-7.result ∷ c.looked_across-8.result ∷ [])
    r
    ≡ byte_word_at lines columns n r =
    λ r low. (
    let e0 = lane_across lines columns n r c.looked_across.result low c.looked_across.ensures.bytes.0 c.looked_across.ensures.value ∙ ap (looked_across lines columns r) itself in
    let e1 = lane_across lines columns (n + 1) r c.looked_across-2.result low c.looked_across-2.ensures.bytes.0 c.looked_across-2.ensures.value in
    let e2 = lane_across lines columns (n + 2) r c.looked_across-3.result low c.looked_across-3.ensures.bytes.0 c.looked_across-3.ensures.value in
    let e3 = lane_across lines columns (n + 3) r c.looked_across-4.result low c.looked_across-4.ensures.bytes.0 c.looked_across-4.ensures.value in
    let e4 = lane_across lines columns (n + 4) r c.looked_across-5.result low c.looked_across-5.ensures.bytes.0 c.looked_across-5.ensures.value in
    let e5 = lane_across lines columns (n + 5) r c.looked_across-6.result low c.looked_across-6.ensures.bytes.0 c.looked_across-6.ensures.value in
    let e6 = lane_across lines columns (n + 6) r c.looked_across-7.result low c.looked_across-7.ensures.bytes.0 c.looked_across-7.ensures.value in
    let e7 = lane_across lines columns (n + 7) r c.looked_across-8.result low c.looked_across-8.ensures.bytes.0 c.looked_across-8.ensures.value in
    λ i. number_l 256 (e0 i ∷ e1 i ∷ e2 i ∷ e3 i ∷ e4 i ∷ e5 i ∷ e6 i ∷ e7 i ∷ [])) in
    c.transposed.ensures
    ∙ (λ i.
    at 0 (omega arith) i ∷ at 1 (omega arith) i ∷ at 2 (omega arith) i ∷ at 3 (omega arith) i ∷ at 4 (omega arith) i ∷ at 5 (omega arith) i
    ∷ at 6 (omega arith) i ∷ at 7 (omega arith) i ∷ at 8 (omega arith) i ∷ at 9 (omega arith) i ∷ at 10 (omega arith) i
    ∷ at 11 (omega arith) i ∷ at 12 (omega arith) i ∷ at 13 (omega arith) i ∷ at 14 (omega arith) i ∷ at 15 (omega arith) i ∷ [])
