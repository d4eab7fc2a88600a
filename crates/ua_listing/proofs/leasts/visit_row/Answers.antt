use Rattle.std.proofs.Common.{◌≡◌, ◌+◌, ◌<◌, ◌≤◌, ℕ, suc, length, get_or, ap, ◌∙◌, subst, arith}
use Rattle.std.specs.Prelude.{slice_index}
use Rattle.std.proofs.lemmas.List.{get_or_default}
use Rattle.ua_table.specs.declared.limits.TheConstants.{BUDGET}
use Rattle.ua_table.specs.Algebras.{arities}
use Rattle.ua_table.specs.Numbering.{Fits}
use Rattle.ua_table.specs.Slices.{bound}
use Rattle.ua_table.proofs.SliceLaws.{bound_laws}
use Rattle.ua_listing.specs.declared.searches.Search.{Search}
use Rattle.ua_listing.specs.declared.searches.Table.{Table}
use Rattle.ua_listing.specs.inner.Searches.{height_in, height_number, IsRowTable, IsSearchOf, GoesOnTo}
use Rattle.ua_listing.proofs.MarkLaws.{marked_below}
use Rattle.ua_table.proofs.Members.{member_at}
use Rattle.ua_listing.proofs.VisitLaws.{order_few, height_kept, top_of, goes_on_start, goes_on_chain, slices_more}
use Rattle.ua_listing.proofs.leasts.visit_row.Goals as goal

module _ (t : Table) (s : Search) (m : ℕ) (table : IsRowTable t) (is : IsSearchOf t s) (row : m < length s.order.items) where
  few : m + 1 ≤ length t.rows.items
  few = let n = order_few t.operations t.gens.now.items t.rows.items s is in omega (arith, n, row)

  budget : m < BUDGET
  budget = let n = few in let b = table.few in omega (arith, n, b)

  fits : Fits t.shape 0 (m + 1)
  fits = (bound_laws t.shape table.limits).fits 0 (length t.rows.items) (m + 1) few table.fits

  height_is : (a b : ℕ) → a ≡ get_or s.order.items m a → b ≡ get_or s.heights.items a b → b ≡ height_number s m
  height_is a b ea eb =
      let at : a ≡ slice_index s.order.items m = ea ∙ get_or_default s.order.items m a 0 row in
      let marked = (is.marks (slice_index s.order.items m)).1 (member_at s.order.items m row) in
      let low : a < length s.heights.items = (let l = marked_below s.reached.items (slice_index s.order.items m) marked in let x = is.marks_count in let y = is.heights_count in omega (arith, at, l, x, y)) in
      eb ∙ get_or_default s.heights.items a b 0 low ∙ ap (height_in s) at

  small : height_number s m + 1 ≤ BUDGET + 1
  small = let l = is.low m row in let b = budget in omega (arith, l, b)

  rises : bound t.shape m ≤ bound t.shape (m + 1)
  rises = (bound_laws t.shape table.limits).rises m (m + 1) (omega arith)

pub overflow_add-height : goal.overflow_add-height
overflow_add-height c =
    let e = height_is c.args.table.now c.args.search.now c.args.m c.requires.table c.requires.search c.requires.row c.index.result.now c.index-2.result.now c.index.ensures c.index-2.ensures in
    let l = small c.args.table.now c.args.search.now c.args.m c.requires.table c.requires.search c.requires.row in
    omega (arith, e, l)

pub bound_step-to-requires-clause-low : goal.bound_step-to-requires-clause-low
bound_step-to-requires-clause-low c = budget c.args.table.now c.args.search.now c.args.m c.requires.table c.requires.search c.requires.row

pub bound_step-to-requires-clause-fits : goal.bound_step-to-requires-clause-fits
bound_step-to-requires-clause-fits c = fits c.args.table.now c.args.search.now c.args.m c.requires.table c.requires.search c.requires.row

pub loop-s-init : goal.loop-s-init
loop-s-init c =
    let t = c.args.table.now in
    let s = c.args.search.now in
    let e = height_is t s c.args.m c.requires.table c.requires.search c.requires.row c.index.result.now c.index-2.result.now c.index.ensures c.index-2.ensures in
    record {
      width = c.requires.width;
      mark = c.requires.mark;
      earlier = c.requires.earlier;
      goes =
          subst (GoesOnTo t s s) (let h : suc (height_number s c.args.m) ≡ c.index-2.result.now + 1 = omega (arith, e) in h)
          (goes_on_start t s (suc (height_number s c.args.m)) c.requires.search
          (top_of t.operations t.gens.now.items t.rows.items s c.args.m c.requires.search c.requires.row c.requires.near));
      visited = c.requires.visited;
    }

pub visit_slice-requires-clause-height : goal.visit_slice-requires-clause-height
visit_slice-requires-clause-height c =
    let t = c.args.table.now in
    let s = c.args.search.now in
    let e = height_is t s c.args.m c.requires.table c.requires.search c.requires.row c.index.result.now c.index-2.result.now c.index.ensures c.index-2.ensures in
    let k = height_kept (arities t.operations) s c.loop-s.search c.loop-s.invariant.goes.later c.args.m c.requires.row in
    omega (arith, e, k)

pub loop-s-preserved : goal.loop-s-preserved
loop-s-preserved c =
    let t = c.args.table.now in
    let i = c.loop-s.invariant in
    let v = c.in_ok-visit_slice.ensures in
    record {
      width = v.width;
      mark = v.mark;
      earlier = let l = v.earlier in omega (arith, l);
      goes = goes_on_chain t c.args.search.now c.loop-s.search c.visit_slice.new.search (c.index-2.result.now + 1) i.goes v.goes_on;
      visited = slices_more t.operations t.gens.now.items t.rows.items c.loop-s.search c.visit_slice.new.search v.goes_on.later c.loop-s.s i.visited v.visited;
    }

pub returns-clause-earlier : goal.returns-clause-earlier
returns-clause-earlier c =
    let r = rises c.args.table.now c.args.search.now c.args.m c.requires.table c.requires.search c.requires.row in
    let from = c.requires.from in
    let to = c.bound_step-to.ensures in
    let e = c.loop-s.invariant.earlier in
    let a = c.loop-s.auto.s-end in
    let le : c.args.from ≤ c.bound_step-to.result = omega (arith, r, from, to) in
    let end = a le in
    omega (arith, e, end)

pub returns-clause-goes_on : goal.returns-clause-goes_on
returns-clause-goes_on c =
    let t = c.args.table.now in
    let s = c.args.search.now in
    let e = height_is t s c.args.m c.requires.table c.requires.search c.requires.row c.index.result.now c.index-2.result.now c.index.ensures c.index-2.ensures in
    subst (GoesOnTo t s c.loop-s.search) (let h : c.index-2.result.now + 1 ≡ suc (height_number s c.args.m) = omega (arith, e) in h) c.loop-s.invariant.goes
