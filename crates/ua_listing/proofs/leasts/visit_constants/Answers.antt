use Rattle.std.proofs.Common.{◌≡◌, ◌+◌, length, sym, ap, ◌∙◌, subst, arith}
use Rattle.ua_table.specs.declared.origins.Origin.TheVariants.{Op}
use Rattle.std.specs.Prelude.{slice_index}
use Rattle.ua_rows.specs.declared.scratch_rows.Scratch.{Scratch}
use Rattle.ua_table.specs.Algebras.{arities}
use Rattle.ua_listing.specs.declared.searches.Search.{Search}
use Rattle.ua_listing.specs.inner.Searches.{GoesOnTo, AreConstantsVisited, no_arguments}
use Rattle.ua_listing.proofs.VisitLaws.{goes_on_start, goes_on_more, constants_more, constants_skip}
use Rattle.ua_listing.proofs.leasts.visit_constants.Goals as goal
use Rattle.ua_listing.proofs.leasts.visit_constants.Goals.{then-arity-eq0+in_ok-visit, else-arity-eq0}

pub loop-op-init : goal.loop-op-init
loop-op-init c = record {
  width = c.requires.width;
  goes = goes_on_start c.args.table.now c.args.search.now 1 c.requires.search c.requires.top;
  visited = λ f h. absurd (omega (arith, h));
}

pub loop-op-preserved : goal.loop-op-preserved
loop-op-preserved c =
    let t = c.args.table.now in
    let s = c.loop-op.search in
    let n = c.loop-op.op in
    let i = c.loop-op.invariant in
    let shape : c.arities-arity-items.result.now ≡ arities t.operations = c.arities-arity-items.ensures.value ∙ c.requires.table.shape in
    elim c.if-arity-eq0.branch [
      | then-arity-eq0+in_ok-visit w ↦
          subst (λ (x : Scratch × Search). record { width : length x.0 ≡ length t.operations; goes : GoesOnTo t c.args.search.now x.1 1; visited : AreConstantsVisited t.operations t.gens.now.items t.rows.items x.1 (n + 1) })
          (λ j. (sym w.scratch-is j, sym w.search-is j)) record {
            width = w.in_ok-visit.ensures.width;
            goes = goes_on_more t c.args.search.now s w.visit.new.search 1 (Op n no_arguments) i.goes w.in_ok-visit.ensures.reached;
            visited = constants_more t.operations t.gens.now.items t.rows.items s w.visit.new.search n 1 i.visited w.in_ok-visit.ensures.reached;
          }
      | else-arity-eq0 w ↦
          subst (λ (x : Scratch × Search). record { width : length x.0 ≡ length t.operations; goes : GoesOnTo t c.args.search.now x.1 1; visited : AreConstantsVisited t.operations t.gens.now.items t.rows.items x.1 (n + 1) })
          (λ j. (sym w.scratch-is j, sym w.search-is j)) record {
            width = i.width;
            goes = i.goes;
            visited = constants_skip t.operations t.gens.now.items t.rows.items s n i.visited (λ e. w.if-arity-eq0.false (ap (λ ks. slice_index ks n) shape ∙ e));
          }
    ]
