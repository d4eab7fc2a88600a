use Rattle.std.proofs.Common.{◌≡◌, ℕ, ◌+◌, ◌*◌, ◌/◌, ◌%◌, ◌^◌, ◌<◌, length, bit_or, sym, ap, subst, ◌∙◌, arith}
use Rattle.ua_columns.specs.inner.Tiles.{IsSomeKeyAt}
use Rattle.ua_columns.proofs.TileLaws.{one_more, bit_below, bit_at, bit_small, bit_true, bit_of, byte_is_bit, bit_entered}
use Rattle.ua_columns.proofs.blocks.known_bits.Goals as goal

pub loop-r-preserved : goal.loop-r-preserved
loop-r-preserved c =
    let bits = c.loop-r.bits in
    let r = c.loop-r.r in
    let t = c.is_key_at-is_there.result in
    let b : ℕ = c.from.result in
    let is : b ≡ bit_of t = c.from.ensures ∙ byte_is_bit t in
    let small : b < 2 = (let s = bit_small t in omega (arith, s, is)) in
    let low = c.loop-r.invariant.below in
    let entered = bit_entered bits b r low small (omega arith) in
    record {
      below = subst (λ n. n < 2 ^ (r + 1)) (sym entered.0) entered.1;
      known = one_more (λ k. bit_or bits (b * 2 ^ r % 4294967296) / 2 ^ k % 2 ≡ 1 → IsSomeKeyAt c.args.keys.now (length c.args.values.now) c.args.count c.args.values.now k) r
          (λ k less e. c.loop-r.invariant.known k less (sym (bit_below bits b r k less) ∙ ap (λ n. n / 2 ^ k % 2) (sym entered.0) ∙ e))
          (λ e. c.is_key_at-is_there.ensures (bit_true t (sym is ∙ sym (bit_at bits b r low small) ∙ ap (λ n. n / 2 ^ r % 2) (sym entered.0) ∙ e)));
    }
