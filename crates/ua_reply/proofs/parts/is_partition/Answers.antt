use Rattle.std.proofs.Common.{◌≡◌, ℕ, List, Err, ap, sym, ◌∙◌, subst}
use Rattle.std.specs.Prelude.{Some}
use Rattle.ua_part.specs.Blocks.{AreBlocks, members_of, first_beyond}
use Rattle.ua_reply.specs.Parts.{blocks_of}
use Rattle.ua_reply.proofs.PartLaws.{blocks_there, blocks_false, blocks_beyond}
use Rattle.ua_reply.proofs.parts.is_partition.Goals as goal

pub returns-in-Ok : goal.returns-in-Ok
returns-in-Ok c =
    let same = ap members_of c.deref.ensures.value ∙ c.in_ok-blocks.ensures in
    let cover = subst (λ n. AreBlocks n (members_of c.deref.result.now)) c.in-Ok.ensures.size c.in-Ok.ensures.blocks.cover in
    sym (blocks_there c.args.size (blocks_of c.args.p.now) (subst (AreBlocks c.args.size) same cover))

pub returns-in-Err-Range : goal.returns-in-Err-Range
returns-in-Err-Range c =
    let same = ap members_of c.deref.ensures.value ∙ c.in_ok-blocks.ensures in
    let m = c.in-Err-Range.field-0-0 in
    let beyond = (c.from_blocks.ensures.range m).0 (c.in-Err-Range.is ∙ ap Err c.in-Err-Range.field-0-is) in
    sym (blocks_beyond c.args.size m (blocks_of c.args.p.now) (subst (λ (bs : List (List ℕ)). first_beyond c.args.size bs ≡ Some m) same beyond))

pub returns-in-Err-NotAPartition : goal.returns-in-Err-NotAPartition
returns-in-Err-NotAPartition c =
    let same = ap members_of c.deref.ensures.value ∙ c.in_ok-blocks.ensures in
    let none = c.from_blocks.ensures.refused (c.in-Err-NotAPartition.is ∙ ap Err c.in-Err-NotAPartition.field-0-is) in
    sym (blocks_false c.args.size (blocks_of c.args.p.now) (subst (λ (bs : List (List ℕ)). AreBlocks c.args.size bs → ⊥) same none))
