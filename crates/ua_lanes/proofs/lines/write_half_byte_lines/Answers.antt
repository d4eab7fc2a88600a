use Rattle.std.proofs.Common.{◌≡◌, ℕ, ◌*◌, ◌/◌, ◌%◌, ◌^◌, ◌<◌, [], List, length, set, sym, ap, ◌∙◌, subst, arith, ⊎_elim}
use Rattle.std.specs.Prelude.{slice_index, slice_index_or}
use Rattle.std.specs.List.{AllByRecursion}
use Rattle.std.proofs.lemmas.Bool.{cases_lt}
use Rattle.std.proofs.lemmas.List.{length-set}
use Rattle.ua_table.proofs.Lists.{all_set}
use Rattle.ua_rows.specs.RowLists.{rows_at}
use Rattle.ua_columns.specs.Columns.{limit, entry_of}
use Rattle.ua_lanes.specs.Lines.{AreSizesAtMost, line_value}
use Rattle.ua_lanes.specs.inner.Lines.{scale_at}
use Rattle.ua_lanes.proofs.LineLaws.{line_low, column_here, column_others}
use Rattle.ua_lanes.proofs.lines.write_half_byte_lines.Goals as goal

pub loop-x-preserved : goal.loop-x-preserved
loop-x-preserved c =
    let x = c.loop-x.x in
    let out = c.loop-x.out in
    let tile = c.set_column.new.tile in
    let line = c.line_of-line.result in
    let i = c.loop-x.invariant in
    let within : x / 16 < length out = (let l = i.long in let t = c.loop-x-test.true in omega (arith, l, t)) in
    let value : ℕ → ℕ → ℕ = λ k y. 16 ^ (k % 2) * line_value c.args.frame.now c.args.op (rows_at c.args.columns.now.items c.args.args.now) c.args.free k y in
    record {
      long = length-set out (x / 16) tile ∙ i.long;
      bytes = all_set (AllByRecursion (AllByRecursion (λ n. n < 256))) out (x / 16) tile c.set_column.ensures.bytes i.bytes;
      lines = λ k y less low. ⊎_elim
          (λ before. column_others out tile x within c.set_column.ensures.others k y (λ e. omega (arith, e, before)) ∙ i.lines k y before low)
          (λ after.
          let same : k ≡ x = omega (arith, less, after) in
          let first : 0 ≡ y / 16 = omega (arith, low) in
          let rest : y ≡ y % 16 = omega (arith, low) in
          subst (λ n. entry_of (set out (x / 16) tile) y n ≡ value n y) (sym same)
          (column_here out tile x within y ∙ ap (λ (l : List ℕ). slice_index l y) c.set_column.ensures.column
          ∙ (λ j. slice_index (slice_index_or line (first j) []) (rest j))
          ∙ c.line_of-line.ensures.values y (omega (arith, low))
          ∙ ap (λ b. scale_at b x * line_value c.args.frame.now c.args.op (rows_at c.args.columns.now.items c.args.args.now) c.args.free x y) c.requires.form))
          (cases_lt k x);
    }

pub returns-clause-lines : goal.returns-clause-lines
returns-clause-lines c = record {
  below = λ x y. line_low 16 c.args.frame.now c.args.op (rows_at c.args.columns.now.items c.args.args.now) c.args.free x y (omega arith) c.requires.vectors.product
      (subst (λ b. AreSizesAtMost (limit b) c.args.frame.now) c.requires.form c.requires.vectors.sizes);
  scaled = λ x y low column. c.loop-x.invariant.lines x y (let l = c.loop-x.invariant.long in omega (arith, low, l)) column;
}
