use Rattle.std.proofs.Common.{◌≡◌, ℕ, ◌+◌, ◌*◌, ◌/◌, ◌%◌, [], List, sym, ap, ◌∙◌, subst, arith, ⊎_elim}
use Rattle.std.specs.Prelude.{slice_index, slice_index_or}
use Rattle.std.proofs.lemmas.Bool.{cases_lt}
use Rattle.ua_rows.specs.RowLists.{rows_at}
use Rattle.ua_columns.specs.Columns.{limit}
use Rattle.ua_lanes.specs.Lines.{AreSizesAtMost, line_value}
use Rattle.ua_lanes.specs.inner.Lines.{scale_at}
use Rattle.ua_lanes.proofs.LineLaws.{line_low}
use Rattle.ua_lanes.proofs.lines.write_byte_lines.Goals as goal

pub loop-x-preserved : goal.loop-x-preserved
loop-x-preserved c =
    let x = c.loop-x.x in
    let e = c.enter_line.ensures in
    let i = c.loop-x.invariant in
    let value : ℕ → ℕ → ℕ = line_value c.args.frame.now c.args.op (rows_at c.args.columns.now.items c.args.args.now) c.args.free in
    let lines = c.enter_line.new.lines in
    record {
      long = e.length ∙ i.long;
      bytes = e.bytes;
      lines = λ k y less low. ⊎_elim
          (λ before.
          let tile : (4 * (k / 16) + y / 16) / 4 ≡ k / 16 = omega (arith, low) in
          ap (λ (l : List ℕ). slice_index l (y % 16)) (e.others (4 * (k / 16) + y / 16) (k % 16) (λ same other. omega (arith, tile, same, other, before)))
          ∙ i.lines k y before low)
          (λ after.
          let same : k ≡ x = omega (arith, less, after) in
          let one : 1 * value x y ≡ value x y = omega arith in
          subst (λ n. slice_index (slice_index_or (slice_index_or lines (4 * (n / 16) + y / 16) []) (n % 16) []) (y % 16) ≡ value n y) (sym same)
          (ap (λ (l : List ℕ). slice_index l (y % 16)) (e.there (y / 16) (omega (arith, low)))
          ∙ c.line_of-line.ensures.values y low
          ∙ ap (λ b. scale_at b x * value x y) c.requires.form ∙ one))
          (cases_lt k x);
    }

pub returns-clause-lines : goal.returns-clause-lines
returns-clause-lines c = record {
  below = λ x y. line_low 64 c.args.frame.now c.args.op (rows_at c.args.columns.now.items c.args.args.now) c.args.free x y (omega arith) c.requires.vectors.product
      (subst (λ b. AreSizesAtMost (limit b) c.args.frame.now) c.requires.form c.requires.vectors.sizes);
  values = λ x y room low. c.loop-x.invariant.lines x y (let l = c.loop-x.invariant.long in omega (arith, room, l)) low;
}
