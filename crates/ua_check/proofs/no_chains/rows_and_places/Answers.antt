use Rattle.std.proofs.Common.{◌≡◌, length, ◌∙◌, arith}
use Rattle.ua_table.specs.Frames.{IsWidth}
use Rattle.ua_identity.specs.Patterns.{all_fillings}
use Rattle.ua_identity.proofs.KindLaws.{some_fillings}
use Rattle.ua_check.proofs.no_chains.rows_and_places.Goals as goal

pub unreachable-requires : goal.unreachable-requires
unreachable-requires c =
    let size = c.size-size.ensures.size in
    let some = some_fillings c.args.a.now.size c.args.kind.now c.patterns-patterns.ensures.kind c.size-size.ensures.algebra.algebra.inhabited in
    let width : c.width_of-width.result ≡ length (all_fillings c.args.a.now.size c.args.kind.now.patterns)
    = c.width_of-width.ensures.width ∙ (λ i. length (all_fillings (size i) (c.patterns-patterns.ensures.patterns i))) in
    let test = c.if-width-from.false in let limit = c.from.ensures in
    let fits : IsWidth c.width_of-width.result = (omega (arith, some, width), omega (arith, test, limit)) in
    let bad = c.in_default.ensures.made.1 fits in cc
