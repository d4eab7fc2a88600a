use Rattle.std.proofs.Common.{[]}
use Rattle.std.specs.Prelude.{slice_index_or}
use Rattle.std.proofs.lemmas.Result.{IfOk-weaker}
use Rattle.ua_cong.proofs.HintLaws.{cg_from_above}
use Rattle.ua_cong.proofs.settling.principal_row.Goals as goal

pub returns-in-Some-hint : goal.returns-in-Some-hint
returns-in-Some-hint c =
    IfOk-weaker c.row_above.result _ _ (λ row k. cg_from_above c.args.a.now (slice_index_or c.args.known.now.rows.items c.in-Some-hint.place []) row.items c.args.first c.args.second c.in-Some-hint.ensures.below k) c.row_above.ensures
