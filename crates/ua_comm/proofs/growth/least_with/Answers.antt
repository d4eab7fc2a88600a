use Rattle.std.proofs.Common.{sym, ap, ◌∙◌, subst}
use Rattle.ua_part.specs.Partitions.{identity_on}
use Rattle.ua_comm.specs.inner.Growths.{IsGrowing}
use Rattle.ua_comm.proofs.GrowthLaws.{growing_none}
use Rattle.ua_comm.proofs.growth.least_with.Goals as goal

pub grow-init : goal.grow-init
grow-init c =
    let a = c.args.a.now in
    subst (IsGrowing a c.args.matrices.now.items) (sym (c.in_ok-delta.ensures ∙ ap identity_on c.size.ensures.size))
    (growing_none a c.args.matrices.now.items c.size.ensures.algebra.algebra)
