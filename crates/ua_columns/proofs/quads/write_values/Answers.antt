use Rattle.std.proofs.Common.{◌≡◌, ◌+◌, ◌*◌, ◌-◌, ◌≤◌, ℕ, length, drop, ap, sym, ◌∙◌, subst, arith, ⊎_elim}
use Rattle.std.specs.Prelude.{slice_index, slice_range}
use Rattle.std.proofs.Math.Nat.{mul-le-mul_right}
use Rattle.std.proofs.lemmas.Bool.{cases_lt}
use Rattle.std.proofs.lemmas.List.{length-take, length-drop}
use borrow.Rule.Slice.PartMut.{put_mid, mid_len}
use Rattle.ua_rows.specs.Words.{lanes_of}
use Rattle.ua_columns.specs.inner.Quads.{values_in_word}
use Rattle.ua_columns.proofs.ListLaws.{part_index, put_long, put_here, put_before}
use Rattle.ua_columns.proofs.quads.write_values.Goals as goal

pub loop-r-preserved : goal.loop-r-preserved
loop-r-preserved c =
    let r = c.loop-r.r in
    let words = c.args.words in
    let keys = c.args.keys.now in
    let out = c.loop-r.out in
    let part = c.write_at.new.out in
    let n : ℕ = r * words + words - r * words in
    let is : n ≡ words = omega arith in
    let test = c.loop-r-test.true in
    let few = c.requires.few in
    let e : (r + 1) * words ≡ r * words + words = omega arith in
    let m : (r + 1) * words ≤ 16 * words = mul-le-mul_right words (let l : r + 1 ≤ 16 = omega (arith, test, few) in l) in
    let k : (r + 1) * words ≤ c.args.count * words = mul-le-mul_right words (let l : r + 1 ≤ c.args.count = omega (arith, test) in l) in
    let kept = c.loop-r.invariant.long in
    let within : r * words + words ≤ length out = omega (arith, e, m, kept) in
    let inside : r * words + words ≤ length keys = (let all = c.requires.keys in omega (arith, e, k, all)) in
    let key_long : length (slice_range keys (r * words) (r * words + words)) ≡ words = (let t = length-take (r * words + words - r * words) (drop (r * words) keys) in let d = length-drop (r * words) keys in omega (arith, t, d, inside)) in
    let long : length part ≡ words = c.write_at.auto.out ∙ mid_len (r * words) (r * words + words) out within ∙ is in
    record {
      long = put_long out part (r * words) n (long ∙ sym is) (let i = is in omega (arith, within, i)) ∙ kept;
      done = λ q j low small. ⊎_elim
          (λ before. ap lanes_of (put_before out part words r q j n is within small before) ∙ c.loop-r.invariant.done q j before small)
          (λ after.
          let here : q ≡ r = omega (arith, low, after) in
          subst (λ i. lanes_of (slice_index (put_mid (r * words) n out part) (i * words + j)) ≡ values_in_word (drop (4 * c.args.size * j) c.args.lines.now) c.args.size (slice_index keys (i * words + j))) (sym here)
          (ap lanes_of (put_here out part words r j n is long within small) ∙ c.write_at.ensures j (omega (arith, small, key_long))
          ∙ ap (values_in_word (drop (4 * c.args.size * j) c.args.lines.now) c.args.size) (part_index keys (r * words) words j small)))
          (cases_lt q r);
    }
