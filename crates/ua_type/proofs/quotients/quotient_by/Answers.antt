use Rattle.std.proofs.Common.{Err, subst}
use Rattle.ua_prod.specs.declared.errors.ProdError.{ProdError}
use Rattle.ua_prod.specs.Permitted.{MayQuotient}
use Rattle.ua_prod.proofs.ClashLaws.{no_clash}
use Rattle.ua_type.proofs.quotients.quotient_by.Goals as goal

pub unreachable-requires : goal.unreachable-requires
unreachable-requires c =
    let a = c.args.a.now in
    let p = c.args.p.now in
    let first = subst (λ (e : ProdError). MayQuotient c.in_ok-copy.field-0 a p (Err e)) c.in-Err-NotCongruence.field-0-is c.in-Err-NotCongruence.ensures in
    no_clash a p c.requires.partition c.requires c.in-Err-NotCongruence.field-0-0 first.clash
