use Rattle.std.proofs.Common.{◌≡◌, ◌+◌, ◌*◌, ◌/◌, ◌%◌, ◌^◌, ◌<◌, ℕ, List, sym, ap, ◌∙◌, subst, arith}
use Rattle.std.specs.Prelude.{slice_index, slice_set}
use Rattle.ua_rows.specs.RowLists.{rows_at}
use Rattle.ua_columns.specs.Columns.{AreLinesOf}
use Rattle.ua_lanes.specs.Lines.{line_value}
use Rattle.ua_lanes.specs.Windows.{tuple_of, IsKnown}
use Rattle.ua_lanes.proofs.WindowLaws.{agreeing_with, told_by_value}
use Rattle.ua_lanes.proofs.windows.Window.look.Goals as goal

-- a bit of the block that was looked at tells of a tuple
told : (c : goal.After-self-4-1) (r : ℕ) → r < 16 → c.known-self.result / 2 ^ r % 2 ≡ 1
    → IsKnown c.args.frame.now c.args.columns.now.items c.line.new.self.op
    (slice_set c.line.new.self.fixed c.line.new.self.free (16 * (slice_index c.args.args.now c.args.place / 16) + r))
told c r low bit =
    let p = c.args.frame.now in
    let items = c.args.columns.now.items in
    let w = c.line.new.self in
    let has = c.line.ensures.window.lined c.line.ensures.lined.lined in
    let f = line_value p w.op (rows_at items (tuple_of p w.op w.fixed)) w.free in
    let are : AreLinesOf c.args.columns.now.in_bytes f c.as_slice.result.now = subst (AreLinesOf c.args.columns.now.in_bytes f) (sym c.as_slice.ensures.value) has.lines_are in
    let found = c.known-self.ensures.known f are r low bit in
    told_by_value p items w.op w.fixed w.free (16 * (slice_index c.args.args.now c.args.place / 16) + r) has.place has.named c.requires.vectors.vectors found.0 found.1

pub returns-clause-window : goal.returns-clause-window
returns-clause-window c =
    let w = c.line.ensures.window in
    record {
      place = w.place;
      four = w.four;
      lines_long = w.lines_long;
      values_long = w.values_long;
      bytes = w.bytes;
      lined = w.lined;
      told = told c;
    }

pub returns-clause-known : goal.returns-clause-known
returns-clause-known c r low bit =
    let p = c.args.frame.now in
    let items = c.args.columns.now.items in
    let w = c.line.new.self in
    let h = c.line.ensures.window in
    let l = c.line.ensures.lined in
    let args = c.args.args.now in
    let place = c.args.place in
    let n : ℕ = 16 * (slice_index args place / 16) + r in
    let free = c.line.ensures.free in
    let same : slice_set w.fixed w.free n ≡ slice_set args place n =
    ap (λ k. slice_set w.fixed k n) free
    ∙ agreeing_with args w.fixed place n c.told-args h.four (let q = h.place in omega (arith, q, free))
    (λ j four apart. l.others j four (λ e. apart (e ∙ free))) in
    subst (λ (q : ℕ × List ℕ). IsKnown p items q.0 q.1) (λ i. (l.operation i, same i))
    (told c r low bit)
