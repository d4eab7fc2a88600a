use Rattle.std.proofs.Common.{◌≡◌, ℕ, List, Err, ap, sym, ◌∙◌, subst}
use Rattle.std.specs.Prelude.{Some}
use Rattle.std.proofs.lemmas.Bool.{false≢true}
use Rattle.ua_table.specs.Algebras.{FiniteAlgebra}
use Rattle.ua_part.specs.Blocks.{AreBlocks, members_of, first_beyond}
use Rattle.ua_reply.specs.Parts.{blocks_of}
use Rattle.ua_reply.proofs.PartLaws.{blocks_true, blocks_beyond, part_blocks}
use Rattle.ua_reply.proofs.parts.part.Goals as goal

pub unreachable-requires : goal.unreachable-requires
unreachable-requires c =
    let k = c.args.known.now in
    let same = ap members_of c.deref.ensures.value ∙ c.in_ok-blocks.ensures in
    let m = c.in-Err-Range.field-0-0 in
    let beyond = (c.from_blocks.ensures.range m).0 (c.in-Err-Range.is ∙ ap Err c.in-Err-Range.field-0-is) in
    let size : c.size.result ≡ k.algebra.size = c.size.ensures.size ∙ ap (λ (a : FiniteAlgebra). a.size) c.algebra.ensures in
    let none = blocks_beyond k.algebra.size m (blocks_of c.args.p.now) (subst (λ n. first_beyond n (blocks_of c.args.p.now) ≡ Some m) size (subst (λ (bs : List (List ℕ)). first_beyond c.size.result bs ≡ Some m) same beyond)) in
    false≢true (sym none ∙ part_blocks k c.args.p.now c.requires)

pub unreachable-requires-in-Err-NotAPartition : goal.unreachable-requires-in-Err-NotAPartition
unreachable-requires-in-Err-NotAPartition c =
    let k = c.args.known.now in
    let same = ap members_of c.deref.ensures.value ∙ c.in_ok-blocks.ensures in
    let lacks = c.from_blocks.ensures.refused (c.in-Err-NotAPartition.is ∙ ap Err c.in-Err-NotAPartition.field-0-is) in
    let size : c.size.result ≡ k.algebra.size = c.size.ensures.size ∙ ap (λ (a : FiniteAlgebra). a.size) c.algebra.ensures in
    subst (λ n. AreBlocks n (blocks_of c.args.p.now) → ⊥) size (subst (λ (bs : List (List ℕ)). AreBlocks c.size.result bs → ⊥) same lacks) (blocks_true k.algebra.size (blocks_of c.args.p.now) (part_blocks k c.args.p.now c.requires))
