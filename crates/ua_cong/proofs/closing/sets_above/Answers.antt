use Rattle.std.proofs.Common.{ℕ, List, [], ◌∷◌, ◌++◌, sym, ◌∙◌, subst}
use Rattle.std.specs.List.{AllByRecursion}
use Rattle.ua_part.specs.Partitions.{Partition}
use Rattle.ua_prod.specs.Congruences.{IsCg}
use Rattle.ua_cong.specs.Closings.{AreElements}
use Rattle.ua_cong.specs.inner.Closings.{IsClosing}
use Rattle.ua_cong.specs.inner.Extensions.{led_pairs}
use Rattle.ua_cong.proofs.ClosingLaws.{closed_all, related_more}
use Rattle.ua_cong.proofs.ExtensionLaws.{closing_above, above_from_cg, elements_above}
use Rattle.ua_cong.proofs.closing.sets_above.Goals as goal

pub relate_pairs-requires-clause-pairs : goal.relate_pairs-requires-clause-pairs
relate_pairs-requires-clause-pairs c =
    subst (AllByRecursion (AreElements c.args.a.now)) (sym (c.as_slice.ensures.value ∙ c.in_ok-pairs.ensures))
    (elements_above c.args.a.now c.args.p c.requires.congruence c.args.x c.args.y c.requires.first c.requires.second)

pub relate_pairs-requires-clause-closing : goal.relate_pairs-requires-clause-closing
relate_pairs-requires-clause-closing c =
    let a = c.args.a.now in
    let all = led_pairs c.args.p ++ (c.args.x, c.args.y) ∷ [] in
    subst (λ (ps : List (ℕ × ℕ)). IsClosing a ps c.of.result c.new.result.items) (sym (c.as_slice.ensures.value ∙ c.in_ok-pairs.ensures))
    (subst (λ (p : Partition). IsClosing a all p c.new.result.items) (sym c.of.ensures)
    (subst (IsClosing a all c.args.p) (sym c.new.ensures.items) (closing_above a c.args.p c.requires.congruence c.args.x c.args.y)))

pub returns : goal.returns
returns c =
    let a = c.args.a.now in
    let p = c.args.p in
    let pairs = c.as_slice.result.now in
    let before = c.relate_pairs.new.closing in
    let after = c.carry_all.new.closing in
    let least : IsCg a pairs after.sets = closed_all a pairs after.sets after.work.items c.size-size.ensures.algebra.algebra c.in_ok-carry_all.ensures.gone.closing c.in_ok-carry_all.ensures.carried
    (related_more before.sets after.sets pairs c.in_ok-carry_all.ensures.gone.grown.above c.in_ok-relate_pairs.ensures.related) in
    above_from_cg a p c.requires.congruence c.args.x c.args.y after.sets
    (subst (λ (ps : List (ℕ × ℕ)). IsCg a ps after.sets) (c.as_slice.ensures.value ∙ c.in_ok-pairs.ensures) least)
