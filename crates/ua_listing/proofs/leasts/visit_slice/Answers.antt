use Rattle.std.proofs.Common.{subst, arith}
use Rattle.ua_table.specs.declared.origins.Origin.TheVariants.{Op}
use Rattle.ua_listing.proofs.VisitLaws.{HasWalked, operation_low, fits_row, walk_begins, walk_end, names_low, moved_may, moved_more, goes_on_start, goes_on_more}
use Rattle.ua_listing.proofs.leasts.visit_slice.Goals as goal

pub overflow_add-m : goal.overflow_add-m
overflow_add-m c = let f = (fits_row c.args.table.now c.args.m c.args.s c.requires.table c.requires.after c.requires.below c.args.search.now c.requires.search c.requires.row).0 in omega (arith, f)

pub claimed_slice-op-requires-clause-low : goal.claimed_slice-op-requires-clause-low
claimed_slice-op-requires-clause-low c = (fits_row c.args.table.now c.args.m c.args.s c.requires.table c.requires.after c.requires.below c.args.search.now c.requires.search c.requires.row).0

pub claimed_slice-op-requires-clause-fits : goal.claimed_slice-op-requires-clause-fits
claimed_slice-op-requires-clause-fits c = (fits_row c.args.table.now c.args.m c.args.s c.requires.table c.requires.after c.requires.below c.args.search.now c.requires.search c.requires.row).1

pub arity-arity-requires : goal.arity-arity-requires
arity-arity-requires c = operation_low c.args.table.now c.args.m c.args.s c.requires.table c.requires.after c.requires.below c.claimed_slice-op.result.op c.claimed_slice-op.ensures.op

pub loop-tuple-init : goal.loop-tuple-init
loop-tuple-init c = record {
  width = c.requires.width;
  goes = goes_on_start c.args.table.now c.args.search.now c.args.height c.requires.search c.requires.top;
  walked =
      walk_begins c.args.table.now c.args.m c.args.s c.requires.table c.requires.after c.requires.below c.args.search.now c.claimed_slice-op.result.op
      c.claimed_slice-op.result.tuples c.claimed_slice-op.ensures.op c.claimed_slice-op.ensures.tuples;
}

pub moved_arguments-args-requires-clause-named : goal.moved_arguments-args-requires-clause-named
moved_arguments-args-requires-clause-named c =
    let t = c.args.table.now in
    names_low t c.args.m c.args.s c.requires.table c.requires.after c.requires.below c.args.search.now c.loop-tuple.search c.args.height
    c.claimed_slice-op.result.op c.loop-tuple.invariant.goes c.requires.row c.requires.height c.claimed_slice-op.ensures.op
    c.in-Some.tuple c.next.new.self (subst (HasWalked t.operations t.gens.now.items t.rows.items c.loop-tuple.search c.args.s c.claimed_slice-op.result.op) c.in-Some.ensures.taken c.loop-tuple.invariant.walked)
    c.arity-arity.result c.as_slice.result.now c.arity-arity.ensures.arity c.as_slice.ensures.value

pub visit-requires-clause-origin : goal.visit-requires-clause-origin
visit-requires-clause-origin c =
    let t = c.args.table.now in
    moved_may t c.args.m c.args.s c.requires.table c.requires.after c.requires.below c.args.search.now c.loop-tuple.search c.args.height
    c.claimed_slice-op.result.op c.loop-tuple.invariant.goes c.requires.row c.requires.height c.claimed_slice-op.ensures.op
    c.in-Some.tuple c.next.new.self (subst (HasWalked t.operations t.gens.now.items t.rows.items c.loop-tuple.search c.args.s c.claimed_slice-op.result.op) c.in-Some.ensures.taken c.loop-tuple.invariant.walked)
    c.arity-arity.result c.as_slice.result.now c.moved_arguments-args.result c.arity-arity.ensures.arity c.as_slice.ensures.value c.moved_arguments-args.ensures

pub loop-tuple-preserved : goal.loop-tuple-preserved
loop-tuple-preserved c =
    let t = c.args.table.now in
    let i = c.loop-tuple.invariant in
    let reached = c.in_ok-visit.ensures.reached in
    record {
      width = c.in_ok-visit.ensures.width;
      goes = goes_on_more t c.args.search.now c.loop-tuple.search c.visit.new.search c.args.height (Op c.claimed_slice-op.result.op c.moved_arguments-args.result) i.goes reached;
      walked =
          moved_more t c.args.m c.args.s c.requires.table c.requires.after c.requires.below c.args.search.now c.loop-tuple.search c.args.height
          c.claimed_slice-op.result.op i.goes c.requires.row c.requires.height c.claimed_slice-op.ensures.op
          c.in-Some.tuple c.next.new.self (subst (HasWalked t.operations t.gens.now.items t.rows.items c.loop-tuple.search c.args.s c.claimed_slice-op.result.op) c.in-Some.ensures.taken i.walked)
          c.arity-arity.result c.as_slice.result.now c.moved_arguments-args.result c.visit.new.search c.arity-arity.ensures.arity c.as_slice.ensures.value c.moved_arguments-args.ensures reached;
    }

pub returns-clause-visited : goal.returns-clause-visited
returns-clause-visited c = let t = c.args.table.now in walk_end t.operations t.gens.now.items t.rows.items c.loop-tuple.search c.args.s c.claimed_slice-op.result.op c.loop-tuple.tuples c.in_default.ensures.none c.loop-tuple.invariant.walked
