use Rattle.std.proofs.Common.{[], sym, subst}
use Rattle.std.proofs.lemmas.Option.{get_or_from_slice_get}
use Rattle.ua_table.specs.Listings.{vectors_of, ranks_of}
use Rattle.ua_matrix.specs.Matrices.{Fails}
use Rattle.ua_matrix.specs.inner.Matrices.{IsFirstOfFront}
use Rattle.ua_matrix.proofs.FailureLaws.{first_stays, first_found}
use Rattle.ua_matrix.proofs.failures.first_so_far.Goals as goal

pub returns-then-not-fails : goal.returns-then-not-fails
returns-then-not-fails c =
    let delta = c.args.delta.now in
    let matrices = vectors_of c.args.list.now in
    let e = get_or_from_slice_get matrices c.args.i c.row.result.now [] c.row.ensures in
    first_stays delta matrices (ranks_of c.args.list.now) c.args.i c.args.first c.requires.first
    (λ f. let t = c.fails.ensures.1 (subst (Fails delta) e f) in let n = c.if-not-fails.true in cc)

pub returns-in_default : goal.returns-in_default
returns-in_default c =
    let delta = c.args.delta.now in
    let matrices = vectors_of c.args.list.now in
    let ranks = ranks_of c.args.list.now in
    let e = get_or_from_slice_get matrices c.args.i c.row.result.now [] c.row.ensures in
    first_found delta matrices ranks c.args.i (subst (IsFirstOfFront delta matrices ranks c.args.i) c.in_default.is c.requires.first)
    (subst (Fails delta) (sym e) (c.fails.ensures.0 c.if-not-fails.false))
