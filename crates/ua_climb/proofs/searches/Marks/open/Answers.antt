use Rattle.std.proofs.Common.{◌<◌, length, sym, ap, ◌∙◌, arith}
use Rattle.std.proofs.lemmas.Result.{on_ok_weaker}
use Rattle.ua_climb.proofs.MarkLaws.{opens_by_entering}
use Rattle.ua_climb.proofs.searches.Marks.open.Goals as goal

pub returns : goal.returns
returns c =
    let below : c.class-class.result < length c.args.self.now.opened.items = omega (arith, c.requires.classes, c.class-class.ensures.named) in
    let lent = c.as_mut_slice.ensures in
    on_ok_weaker _
    (opens_by_entering c.args.network.now c.args.state c.class-class.result c.members.result.now _ _ _ _ _ _ _ lent.value
    (sym lent.len ∙ ap length lent.value) c.class-class.ensures.class c.members.ensures.members below)
    c.enter.ensures
