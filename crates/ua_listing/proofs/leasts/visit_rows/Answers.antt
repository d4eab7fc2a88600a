use Rattle.std.proofs.Common.{◌+◌, ◌-◌, ◌<◌, length, sym, subst, arith}
use Rattle.ua_table.specs.Algebras.{arities}
use Rattle.ua_table.proofs.SliceLaws.{bound_laws}
use Rattle.ua_listing.specs.inner.Searches.{SlicesVisitedIn}
use Rattle.ua_listing.proofs.SearchLaws.{later_itself, later_chain}
use Rattle.ua_listing.proofs.VisitLaws.{order_few, row_kept, near_next}
use Rattle.ua_listing.proofs.leasts.visit_rows.Goals as goal

pub loop-m-init : goal.loop-m-init
loop-m-init c =
    let t = c.args.table.now in
    record {
      width = c.requires.width;
      mark = c.first_mark-mark.ensures.mark;
      earlier = let e = c.first_mark-mark.ensures.none in omega (arith, e);
      search = c.requires.search;
      later = later_itself (arities t.operations) c.args.search.now;
      few = omega arith;
      near = λ i le low q r. let h = c.requires.top.high q r in omega (arith, h);
      slices = sym (bound_laws t.shape c.requires.table.limits).none;
      visited = λ k low. absurd (omega (arith, low));
    }

pub overflow_cast-m : goal.overflow_cast-m
overflow_cast-m c =
    let t = c.args.table.now in
    let n = order_few t.operations t.gens.now.items t.rows.items c.loop-m.search c.loop-m.invariant.search in
    let b = c.requires.table.few in
    let m = c.loop-m.invariant.few in
    omega (arith, n, b, m)

pub loop-m-smaller : goal.loop-m-smaller
loop-m-smaller c =
    let t = c.args.table.now in
    let n = order_few t.operations t.gens.now.items t.rows.items c.loop-m.search c.loop-m.invariant.search in
    let l = c.loop-m-test.true in
    let e = c.len.ensures in
    let low : c.loop-m.m < length t.rows.items = omega (arith, n, l, e) in
    let h : length t.rows.items - (c.loop-m.m + 1) < length t.rows.items - c.loop-m.m = omega (arith, low) in
    h

pub loop-m-preserved : goal.loop-m-preserved
loop-m-preserved c =
    let t = c.args.table.now in
    let s = c.loop-m.search in
    let i = c.loop-m.invariant in
    let v = c.in_ok-s.ensures in
    let row : c.loop-m.m < length s.order.items = (let l = c.loop-m-test.true in let e = c.len.ensures in omega (arith, l, e)) in
    record {
      width = v.width;
      mark = v.mark;
      earlier = v.earlier;
      search = v.goes_on.search;
      later = later_chain (arities t.operations) c.args.search.now s c.visit_row.new.search i.later v.goes_on.later;
      few = let r = row_kept (arities t.operations) s c.visit_row.new.search v.goes_on.later c.loop-m.m row in omega (arith, r);
      near = λ k le low. near_next t.operations t.gens.now.items t.rows.items s c.visit_row.new.search c.loop-m.m k v.goes_on.search v.goes_on.later row v.goes_on.top (omega (arith, le)) low;
      slices = v.to;
      visited = subst (SlicesVisitedIn t c.visit_row.new.search) (sym v.to) v.visited;
    }
