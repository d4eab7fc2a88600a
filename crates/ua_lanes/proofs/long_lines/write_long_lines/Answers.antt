use Rattle.std.proofs.Common.{◌≡◌, ◌+◌, ◌*◌, ◌-◌, ◌<◌, ◌≤◌, ℕ, length, sym, ◌∙◌, subst, arith, ⊎_elim}
use Rattle.std.specs.Prelude.{slice_index}
use Rattle.std.proofs.Math.Nat.{mul-le-mul_right}
use Rattle.std.proofs.lemmas.Bool.{cases_lt}
use borrow.Rule.Slice.PartMut.{put_mid, mid_len}
use Rattle.ua_rows.specs.RowLists.{rows_at}
use Rattle.ua_lanes.specs.Lines.{line_value}
use Rattle.ua_columns.proofs.ListLaws.{put_long, put_here, put_before}
use Rattle.ua_lanes.proofs.long_lines.write_long_lines.Goals as goal

pub loop-x-preserved : goal.loop-x-preserved
loop-x-preserved c =
    let x = c.loop-x.x in
    let size = c.size-size.result in
    let out = c.loop-x.out in
    let line = c.write_line.new.line in
    let n : ℕ = x * size + size - x * size in
    let is : n ≡ size = omega arith in
    let end = c.width-x-end.ensures.width in
    let test = c.loop-x-test.true in
    let e : (x + 1) * size ≡ x * size + size = omega arith in
    let m : (x + 1) * size ≤ length c.args.frame.now * size = mul-le-mul_right size (let l : x + 1 ≤ length c.args.frame.now = omega (arith, test, end) in l) in
    let whole : length c.args.frame.now * size ≤ length c.args.out.now = subst (λ s. length c.args.frame.now * s ≤ length c.args.out.now) (sym c.size-size.ensures) c.requires.whole in
    let kept = c.loop-x.invariant.long in
    let within : x * size + size ≤ length out = omega (arith, e, m, whole, kept) in
    let long : length line ≡ size = c.write_line.ensures.length ∙ mid_len (x * size) (x * size + size) out within ∙ is in
    let value : ℕ → ℕ → ℕ = line_value c.args.frame.now c.args.op (rows_at c.args.quads.now.items c.args.args.now) c.args.free in
    record {
      long = put_long out line (x * size) n (long ∙ sym is) (let i = is in omega (arith, within, i)) ∙ kept;
      lines = λ k y low small.
          let below : y < size = subst (λ s. y < s) (sym c.size-size.ensures) small in
          subst (λ s. slice_index (put_mid (x * size) n out line) (k * s + y) ≡ value k y) c.size-size.ensures
          (⊎_elim
          (λ before. put_before out line size x k y n is within below before ∙ subst (λ s. slice_index out (k * s + y) ≡ value k y) (sym c.size-size.ensures) (c.loop-x.invariant.lines k y before small))
          (λ after.
          let here : k ≡ x = omega (arith, low, after) in
          subst (λ j. slice_index (put_mid (x * size) n out line) (j * size + y) ≡ value j y) (sym here)
          (put_here out line size x y n is long within below ∙ c.write_line.ensures.values y (omega (arith, below, long))))
          (cases_lt k x));
    }
