use Rattle.std.proofs.Common.{List, [], ◌∷◌, ◌++◌, get_or, ap, sym, ◌∙◌, arith}
use Rattle.std.proofs.lemmas.List.{take_all}
use Rattle.ua_table.specs.Algebras.{Vector}
use Rattle.ua_table.specs.VectorLists.{VectorList}
use Rattle.ua_sub.specs.Homs.{with_images}
use Rattle.ua_sub.proofs.HomLaws.{with_images_more, length-with_images}
use Rattle.ua_sub.proofs.homs.with_images.Goals as goal

abbrev pairs_list : List Vector → VectorList
pairs_list vs = record { width = 2; items = vs }

pub loop-i-preserved : goal.loop-i-preserved
loop-i-preserved c =
    c.in_ok-add.ensures.ok
    ∙ ap (λ (v : VectorList). record v { items = v.items ++ (get_or c.args.gens.now c.loop-i.i 0 ∷ get_or c.args.images.now c.loop-i.i 0 ∷ []) ∷ [] }) c.loop-i.invariant
    ∙ ap pairs_list (sym (with_images_more c.args.gens.now c.args.images.now c.loop-i.i c.loop-i-test.true c.requires.same))

pub returns : goal.returns
returns c =
    c.loop-i.invariant
    ∙ ap pairs_list (take_all c.loop-i.i (with_images c.args.gens.now c.args.images.now) (let n = length-with_images c.args.gens.now c.args.images.now c.requires.same in omega (arith, n, c.loop-i-test.false)))
