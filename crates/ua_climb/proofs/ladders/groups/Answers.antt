use Rattle.std.proofs.Common.{◌≡◌, ◌<◌, length, sym, ap, subst, arith, ℕ}
use Rattle.std.proofs.lemmas.List.{length-map}
use Rattle.ua_climb.specs.inner.Sides.{AreGroups}
use Rattle.ua_climb.proofs.GroupLaws.{all_items, groups_skip, groups_more, group_written}
use Rattle.ua_climb.proofs.ladders.groups.Goals as goal
use Rattle.ua_climb.proofs.ladders.groups.Goals.{then-allowed-row+in_ok-push, else-allowed-row}

pub loop-row-preserved : goal.loop-row-preserved
loop-row-preserved c =
    elim c.if-allowed-row.branch [
      | then-allowed-row+in_ok-push w ↦
          let gs = c.loop-row.groups.items in
          let named = w.enters.ensures.named in
          let count : length (all_items gs) ≡ c.args.links.now.classes = c.loop-row.invariant.count in
          let within : w.enters.result < length gs = omega (arith, named, count, length-map gs (λ v. v.items)) in
          let written = group_written gs c.if-allowed-row.groups.items w.enters.result _ w.push.new.self w.index_mut.result.now (ap (λ v. v.items) w.groups-is) within w.index_mut.ensures.value w.in_ok-push.ensures.items in
          groups_more c.args.allowed.now c.args.links.now.enters c.args.links.now.classes c.args.first c.loop-row.row (all_items gs) w.enters.result _ c.loop-row.invariant w.if-allowed-row.true w.enters.ensures.class named written
      | else-allowed-row w ↦
          let same = ap (λ v. all_items v.items) w.groups-is in
          subst (AreGroups c.args.allowed.now c.args.links.now.enters c.args.links.now.classes c.args.first _) (sym same)
          (groups_skip c.args.allowed.now c.args.links.now.enters c.args.links.now.classes c.args.first c.loop-row.row _ c.loop-row.invariant
          w.if-allowed-row.false)
    ]

pub returns : goal.returns
returns c =
    let same : c.loop-row.row ≡ length c.args.allowed.now = omega arith in
    subst (λ (k : ℕ). AreGroups c.args.allowed.now c.args.links.now.enters c.args.links.now.classes c.args.first k (all_items c.loop-row.groups.items)) same c.loop-row.invariant
