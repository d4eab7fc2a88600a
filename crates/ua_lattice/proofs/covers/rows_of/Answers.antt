use Rattle.std.proofs.Common.{[], List, ◌∙◌, subst}
use Rattle.std.specs.Prelude.{Contains}
use Rattle.std.proofs.lemmas.List.{get_or_default}
use Rattle.ua_part.specs.Partitions.{Partition}
use Rattle.ua_lattice.proofs.OrderLaws.{not_before}
use Rattle.ua_lattice.proofs.covers.rows_of.Goals as goal

pub push-requires-clause-new : goal.push-requires-clause-new
push-requires-clause-new c = λ k.
    let list = c.args.list.now in
    let row = c.as_slice.result.now in
    let is = c.as_slice.ensures.value ∙ c.copy.ensures ∙ c.index-list-i.is ∙ get_or_default list c.loop-i.i c.index-list-i.result [] c.loop-i-test.true in
    not_before list c.requires.list c.loop-i.i row c.loop-i-test.true is (subst (λ (rows : List Partition). Contains rows row) c.loop-i.invariant.rows k)
