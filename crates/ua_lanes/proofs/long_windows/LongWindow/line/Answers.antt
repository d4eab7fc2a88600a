use Rattle.std.proofs.Common.{◌≡◌, ◌*◌, ◌++◌, ℕ, List, length, take, drop, sym, ap, ◌∙◌, subst, arith}
use Rattle.std.specs.Prelude.{slice_index}
use Rattle.ua_table.specs.Algebras.{arities}
use Rattle.ua_table.proofs.Lists.{written_back}
use Rattle.ua_rows.specs.RowLists.{rows_at}
use Rattle.ua_rows.proofs.ApplyForms.{arity_is}
use Rattle.ua_lanes.specs.Lines.{line_value}
use Rattle.ua_columns.specs.Quads.{AreLongLines}
use Rattle.ua_lanes.proofs.LongLaws.{lines_whole}
use Rattle.ua_lanes.proofs.long_windows.LongWindow.line.Goals as goal

pub write_long_lines-requires-clause-whole : goal.write_long_lines-requires-clause-whole
write_long_lines-requires-clause-whole c =
    let quads = c.args.quads.now in
    let long = c.requires.window.lines_long in
    let l = ap (length {A = ℕ}) c.as_mut_slice.ensures.value in
    let k = c.args.self.now.lines.ok.0 in
    let w = lines_whole quads.width quads.size in
    let e : length c.args.frame.now * quads.size ≡ quads.width * quads.size = ap (λ n. n * quads.size) (sym c.requires.vectors.width) in
    omega (arith, long, l, k, w, e)

pub returns-clause-window : goal.returns-clause-window
returns-clause-window c =
    let w = c.requires.window in
    let p = c.args.frame.now in
    let quads = c.args.quads.now in
    let args = c.args.args.now in
    let old = c.args.self.now.lines in
    let out = c.write_long_lines.new.out in
    let long : length out ≡ length old.items = c.write_long_lines.ensures.length ∙ ap (length {A = ℕ}) c.as_mut_slice.ensures.value in
    let written : take old.len (out ++ drop (length out) old.items) ≡ out = written_back old.items out old.len long old.ok.0 in
    let arity : c.from-arity.result ≡ slice_index (arities p) c.args.op =
    c.from-arity.ensures ∙ c.arity.ensures.arity
    ∙ sym
    (arity_is p c.args.op 0 c.algebra_at.result.now c.algebra_at.ensures.product c.algebra_at.ensures.algebra c.op.result.now
    c.op.ensures.operation) in
    record {
      four = c.told-args;
      lines_long = w.lines_long;
      values_long = w.values_long;
      are_lined = λ t. record {
        operation = c.requires.operation;
        place = c.requires.place;
        named = c.requires.named;
        lines_are =
            subst
            (λ (q : (ℕ × ℕ) × List ℕ).
            AreLongLines quads.size q.0.0 (line_value p c.args.op (rows_at quads.items (take q.0.1 args)) c.args.place) q.1)
            (λ i. ((sym c.requires.vectors.width i, arity i), sym written i)) c.write_long_lines.ensures.lines;
      };
    }
