use Rattle.std.proofs.Common.{◌≡◌, sym, ap, subst, ◌∙◌}
use Rattle.std.specs.List.{AllByRecursion}
use Rattle.ua_table.specs.Algebras.{Product, IsVector}
use Rattle.ua_table.specs.VectorLists.{VectorList}
use Rattle.ua_sub.specs.Homs.{both}
use Rattle.ua_sub.proofs.HomLaws.{frame_is, images_admitted, of_both}
use Rattle.ua_sub.proofs.extending.hom.Goals as goal

pub map_pairs-requires-clause-admitted : goal.map_pairs-requires-clause-admitted
map_pairs-requires-clause-admitted g c κs within =
    let a = c.args.a.now in
    let b = c.args.b.now in
    let frame : c.in-Ok.frame ≡ both c.args.a.now c.args.b.now =
    frame_is a b c.as_slice.result.now c.in_ok-to_vec.field-0.items c.in-Ok.frame (c.as_slice.ensures.value ∙ c.in_ok-algebras.ensures)
    (c.in_ok-to_vec.ensures.items_if_clones_equal (λ y e h. h)) c.in-Ok.ensures.ok in
    subst (λ (q : Product × VectorList). AllByRecursion (IsVector q.0) q.1.items) (λ i. (sym frame i, sym c.in_ok-pairs.ensures i)) (images_admitted a b c.args.gens.now c.args.images.now c.requires.elements c.requires.images)

pub returns : goal.returns
returns g c =
    let a = c.args.a.now in
    let b = c.args.b.now in
    let frame : c.in-Ok.frame ≡ both c.args.a.now c.args.b.now =
    frame_is a b c.as_slice.result.now c.in_ok-to_vec.field-0.items c.in-Ok.frame (c.as_slice.ensures.value ∙ c.in_ok-algebras.ensures)
    (c.in_ok-to_vec.ensures.items_if_clones_equal (λ y e h. h)) c.in-Ok.ensures.ok in
    record {
      permitted = of_both a b c.args.gens.now c.args.images.now c.in-Ok.frame c.in_ok-pairs.pairs.items c.args.run.now.budget c.args.run.now.workers
          c.map_pairs.result (c.same_signature.ensures.same.0 c.if-not-same_signature.false) frame
          (ap (λ (v : VectorList). v.items) c.in_ok-pairs.ensures) c.map_pairs.ensures.permitted;
    }
