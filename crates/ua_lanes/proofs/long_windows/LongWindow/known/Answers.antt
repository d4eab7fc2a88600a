use Rattle.std.proofs.Common.{◌≡◌, ◌+◌, ◌*◌, ◌/◌, ℕ, List, sym, ap, ◌∙◌, subst}
use Rattle.std.specs.Prelude.{slice_index, slice_set}
use Rattle.ua_rows.specs.RowLists.{rows_at}
use Rattle.ua_columns.specs.Quads.{AreLongLines}
use Rattle.ua_lanes.specs.Lines.{line_value}
use Rattle.ua_lanes.specs.Windows.{tuple_of, IsKnown}
use Rattle.ua_lanes.proofs.WindowLaws.{agreeing_with, told_by_value}
use Rattle.ua_lanes.proofs.long_windows.LongWindow.known.Goals as goal

pub returns-clause-known : goal.returns-clause-known
returns-clause-known c r low bit =
    let p = c.args.frame.now in
    let quads = c.args.quads.now in
    let w = c.line.new.self in
    let h = c.line.ensures.window in
    let l = c.line.ensures.lined in
    let has = h.are_lined l.lined in
    let args = c.args.args.now in
    let place = c.args.place in
    let n : ℕ = 16 * (slice_index args place / 16) + r in
    let f = line_value p w.op (rows_at quads.items (tuple_of p w.op w.fixed)) w.free in
    let are : AreLongLines quads.size quads.width f c.as_slice.result.now = subst (AreLongLines quads.size quads.width f) (sym c.as_slice.ensures.value) has.lines_are in
    let found = c.known.ensures.known f are r low bit in
    let told = told_by_value p quads.items w.op w.fixed w.free n has.place has.named c.requires.vectors.vectors found.0 found.1 in
    let same : slice_set w.fixed w.free n ≡ slice_set args place n = ap (λ k. slice_set w.fixed k n) l.free ∙ agreeing_with args w.fixed place n c.told-args h.four c.requires.few l.others in
    subst (λ (q : ℕ × List ℕ). IsKnown p quads.items q.0 q.1) (λ i. (l.operation i, same i)) told
