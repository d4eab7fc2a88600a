use Rattle.std.proofs.Common.{◌≡◌, ℕ, ◌+◌, ◌-◌, ◌*◌, ◌/◌, ◌%◌, ◌^◌, ◌<◌, ◌≤◌, List, length, drop, bit_or, sym, ap, subst, ◌∙◌, arith}
use Rattle.std.proofs.Math.Nat.{mul-le-mul_right}
use Rattle.std.proofs.lemmas.List.{length-drop, length-take-le}
use Rattle.ua_columns.specs.Tiles.{key_at}
use Rattle.ua_columns.specs.inner.Quads.{IsOneOf, IsSomeKey}
use Rattle.ua_columns.proofs.TileLaws.{one_more, bit_below, bit_at, bit_small, bit_true, bit_of, byte_is_bit, bit_entered}
use Rattle.ua_columns.proofs.key_blocks.known_keys.Goals as goal

-- a key of a block has as many words as each
some_key : (keys block : List ℕ) (words count r : ℕ) → length block ≡ 16 * words → r < 16 → IsOneOf keys count (key_at block words r) → IsSomeKey keys words count block r
some_key keys block words count r whole low h =
    let within : (r + 1) * words ≤ 16 * words = mul-le-mul_right words (omega (arith, low)) in
    let from = length-drop (r * words) block in
    let n : length (key_at block words r) ≡ words = length-take-le (r * words + words - r * words) (drop (r * words) block) (omega (arith, within, from, whole)) ∙ omega arith in
    (h.0, h.1, subst (λ m. key_at keys m h.0 ≡ key_at block words r) n h.2)

pub loop-r-preserved : goal.loop-r-preserved
loop-r-preserved c =
    let bits = c.loop-r.bits in
    let r = c.loop-r.r in
    let t = c.is_guessed-is_there.result in
    let b : ℕ = c.from.result in
    let is : b ≡ bit_of t = c.from.ensures ∙ byte_is_bit t in
    let small : b < 2 = (let s = bit_small t in omega (arith, s, is)) in
    let low = c.loop-r.invariant.below in
    let entered = bit_entered bits b r low small (omega arith) in
    record {
      below = subst (λ n. n < 2 ^ (r + 1)) (sym entered.0) entered.1;
      known = one_more (λ k. bit_or bits (b * 2 ^ r % 4294967296) / 2 ^ k % 2 ≡ 1 → IsSomeKey c.args.keys.now c.args.words c.args.count c.args.block.now k) r
          (λ k less e. c.loop-r.invariant.known k less (sym (bit_below bits b r k less) ∙ ap (λ n. n / 2 ^ k % 2) (sym entered.0) ∙ e))
          (λ e. let yes = bit_true t (sym is ∙ sym (bit_at bits b r low small) ∙ ap (λ n. n / 2 ^ r % 2) (sym entered.0) ∙ e) in
          some_key c.args.keys.now c.args.block.now c.args.words c.args.count r c.requires.block c.loop-r-test.true (c.is_guessed-is_there.ensures yes));
    }
