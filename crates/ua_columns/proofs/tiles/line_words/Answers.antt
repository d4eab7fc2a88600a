use Rattle.std.proofs.Common.{◌≡◌, ℕ, ◌<◌, [], ◌∷◌, ◌∙◌, arith}
use Rattle.std.specs.Simd.Lanes.{number_l}
use Rattle.ua_columns.specs.inner.Tiles.{word_across, word_at}
use Rattle.ua_columns.proofs.tiles.line_words.Goals as goal

pub returns : goal.returns
returns c =
    let lines = c.args.lines.now in
    let columns = c.args.columns.now in
    let at : (r : ℕ) → r < 16 → word_across (c.pair.result ∷ c.pair-2.result ∷ c.pair-3.result ∷ c.pair-4.result ∷ c.pair-5.result ∷ c.pair-6.result ∷ c.pair-7.result ∷ c.pair-8.result ∷ []) r ≡ word_at lines columns r =
    λ r low. (
    let e0 = c.pair.ensures.value r low in
    let e1 = c.pair-2.ensures.value r low in
    let e2 = c.pair-3.ensures.value r low in
    let e3 = c.pair-4.ensures.value r low in
    let e4 = c.pair-5.ensures.value r low in
    let e5 = c.pair-6.ensures.value r low in
    let e6 = c.pair-7.ensures.value r low in
    let e7 = c.pair-8.ensures.value r low in
    λ i. number_l 256 (e0 i ∷ e1 i ∷ e2 i ∷ e3 i ∷ e4 i ∷ e5 i ∷ e6 i ∷ e7 i ∷ [])) in
    c.transposed.ensures
    ∙ (λ i.
    at 0 (omega arith) i ∷ at 1 (omega arith) i ∷ at 2 (omega arith) i ∷ at 3 (omega arith) i ∷ at 4 (omega arith) i ∷ at 5 (omega arith) i
    ∷ at 6 (omega arith) i ∷ at 7 (omega arith) i ∷ at 8 (omega arith) i ∷ at 9 (omega arith) i ∷ at 10 (omega arith) i
    ∷ at 11 (omega arith) i ∷ at 12 (omega arith) i ∷ at 13 (omega arith) i ∷ at 14 (omega arith) i ∷ at 15 (omega arith) i ∷ [])
