use Rattle.std.proofs.Common.{◌≡◌, length, refl, ap, ◌∙◌}
use Rattle.ua_table.specs.Algebras.{Vector}
use Rattle.ua_table.specs.Listings.{vectors_of}
use Rattle.ua_table.proofs.Lists.{All-slice_get}
use Rattle.ua_sub.specs.Members.{singles}
use Rattle.ua_sub.proofs.MemberLaws.{entries_more}
use Rattle.ua_sub.proofs.members.entries.Goals as goal

pub loop-i-preserved : goal.loop-i-preserved
loop-i-preserved c =
    let vs = vectors_of c.args.list.now in
    ap singles c.in_ok-push.ensures.items
    ∙ entries_more c.loop-i.members.items _ vs c.loop-i.i c.row.result.now c.loop-i.invariant c.row.ensures (All-slice_get (λ (v : Vector). length v ≡ 1) vs c.loop-i.i c.row.result.now c.requires c.row.ensures) refl
