use Rattle.std.proofs.Common.{◌≡◌, ◌+◌, ◌<◌, length, ap, sym, subst, ◌∙◌, arith}
use Rattle.std.specs.Prelude.{slice_index}
use Rattle.ua_part.specs.Partitions.{merged}
use Rattle.ua_part.proofs.JoinLaws.{IsJoinedBelow, joined_leader, joined_more}
use Rattle.ua_part.proofs.sets.DisjointSets.unite_row.Goals as goal
use Rattle.ua_part.proofs.sets.DisjointSets.unite_row.Goals.{then-leader-a, else-leader-a}

pub loop-a-preserved : goal.loop-a-preserved
loop-a-preserved c =
    let p = c.args.self.now in
    let q = c.args.row.now in
    let n = c.loop-a.a in
    let within : n < length q = omega (arith, c.size-a-end.ensures.size, c.requires.size, c.loop-a-test.true) in
    let hq = c.requires.partition in
    let leader : c.from-leader.result ≡ slice_index q n = c.from-leader.ensures in
    elim c.if-leader-a.branch [
      | then-leader-a w ↦ subst (λ r. IsJoinedBelow p q r (n + 1)) (sym (w.self-is ∙ w.unite.ensures.merged ∙ ap (λ k. merged c.loop-a.self k n) leader)) (joined_more p q c.loop-a.self n hq c.requires.size within c.loop-a.invariant)
      | else-leader-a w ↦ subst (λ r. IsJoinedBelow p q r (n + 1)) (sym w.self-is) (joined_leader p q c.loop-a.self n hq c.requires.size within c.loop-a.invariant (omega (arith, leader, w.if-leader-a.false)))
    ]
