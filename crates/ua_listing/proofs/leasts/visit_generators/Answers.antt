use Rattle.std.proofs.Common.{◌+◌, ◌<◌, [], length, sym, ap, ◌∙◌, subst, arith, Some}
use Rattle.std.specs.Prelude.{Contains}
use Rattle.std.proofs.lemmas.Option.{get_or_from_slice_get}
use Rattle.ua_table.specs.declared.origins.Origin.TheVariants.{Gen}
use Rattle.ua_table.proofs.Lists.{All-slice_get, AllZip-length}
use Rattle.ua_listing.specs.declared.searches.Search.{Search}
use Rattle.ua_listing.specs.inner.Searches.{GoesOnTo, AreGeneratorsVisited}
use Rattle.ua_listing.proofs.VisitLaws.{absent, goes_on_start, goes_on_more, may_generator, generators_more}
use Rattle.ua_listing.proofs.leasts.visit_generators.Goals as goal
use Rattle.ua_listing.proofs.leasts.visit_generators.Goals.{in-Some+in_ok-reach, in_default}

pub loop-index-init : goal.loop-index-init
loop-index-init c = record {
  goes = goes_on_start c.args.table.now c.args.search.now 0 c.requires.search c.requires.top;
  visited = λ i h. absurd (omega (arith, h));
}

pub find-requires : goal.find-requires
find-requires c = let v = All-slice_get _ c.args.table.now.gens.now.items c.loop-index.index c.get.result.now c.requires.table.admitted c.get.ensures.vector in sym (AllZip-length _ _ _ v) ∙ sym c.requires.table.width

pub reach-requires-clause-row : goal.reach-requires-clause-row
reach-requires-clause-row c = c.in-Some.ensures.found ∙ ap Some (sym (get_or_from_slice_get c.args.table.now.gens.now.items c.loop-index.index c.get.result.now [] c.get.ensures.vector))

pub loop-index-preserved : goal.loop-index-preserved
loop-index-preserved c =
    let t = c.args.table.now in
    let s = c.loop-index.search in
    let n = c.loop-index.index in
    let i = c.loop-index.invariant in
    let low : n < length t.gens.now.items = (let l = c.loop-index-test.true in let e = c.len-index-end.ensures in omega (arith, l, e)) in
    elim c.match-find.branch [
      | in-Some+in_ok-reach w ↦
          subst (λ (new : Search). record { goes : GoesOnTo t c.args.search.now new 0; visited : AreGeneratorsVisited t.operations t.gens.now.items t.rows.items new (n + 1) }) (sym w.search-is) record {
            goes = goes_on_more t c.args.search.now s w.reach.new.self 0 (Gen n) i.goes w.in_ok-reach.ensures;
            visited = generators_more t.operations t.gens.now.items t.rows.items s w.reach.new.self n 0 i.visited w.in_ok-reach.ensures;
          }
      | in_default w ↦
          let is = absent t.operations t.gens.now.items t.rows.items s 0 (Gen n) i.goes.search i.goes.top (may_generator t.operations t.gens.now.items t.rows.items s n low)
          (λ h. w.in_default.ensures.absent (subst (Contains t.rows.items) (get_or_from_slice_get t.gens.now.items n c.get.result.now [] c.get.ensures.vector) h)) in
          subst (λ (new : Search). record { goes : GoesOnTo t c.args.search.now new 0; visited : AreGeneratorsVisited t.operations t.gens.now.items t.rows.items new (n + 1) }) (sym w.search-is) record {
            goes = i.goes;
            visited = generators_more t.operations t.gens.now.items t.rows.items s s n 0 i.visited is;
          }
    ]
