use Rattle.std.proofs.Common.{subst}
use Rattle.std.specs.Prelude.{Ok}
use Rattle.std.proofs.lemmas.Result.{err_from_is_err_and}
use Rattle.ua_type.specs.declared.searches.Search.{Search}
use Rattle.ua_type.specs.inner.Searches.{MaySearch}
use Rattle.ua_type.proofs.TypingLaws.{subtrace_here, pairs_wide}
use Rattle.ua_type.proofs.subtraces.subtrace.Goals as goal

pub returns-in_err-pair : goal.returns-in_err-pair
returns-in_err-pair g c =
    let p = err_from_is_err_and c.from_residual-in_err-pair.result c.from_residual-in_err-pair.ensures.1 in
    record { permitted = rw (p.1, p.2) (pairs_wide c.args.a.now c.args.alpha.now c.args.beta.now c.args.run.now.budget c.in_ok-made.made c.in_ok-made.ensures c.in_err-pair.field-0.0 c.in_err-pair.ensures) }

pub returns : goal.returns
returns g c =
    let made = c.in_ok-made.made in
    let budget = c.args.run.now.budget in
    record {
      permitted = subtrace_here c.args.a.now c.args.alpha.now c.args.beta.now budget made c.in_ok-made.ensures c.in-Found.pair
          (subst (λ (s : Search). MaySearch made.algebra made.theta budget (Ok s)) c.in-Found.is c.in_ok-pair.ensures)
          c.index-low.result.now c.index-high.result.now c.index-low.ensures c.index-high.ensures;
    }
