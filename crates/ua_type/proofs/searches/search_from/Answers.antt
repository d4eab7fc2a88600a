use Rattle.std.proofs.Common.{subst, arith}
use Rattle.std.specs.Prelude.{Ok}
use Rattle.std.proofs.lemmas.Result.{err_from_is_err_and}
use Rattle.ua_type.specs.declared.trials.Trial.{Trial}
use Rattle.ua_type.specs.inner.Outcomes.{MayTryRelated}
use Rattle.ua_type.proofs.SearchLaws.{ends_beyond, ends_found, met_ahead, vain_next}
use Rattle.ua_type.proofs.searches.search_from.Goals as goal

pub returns-in-Beyond-clause-search : goal.returns-in-Beyond-clause-search
returns-in-Beyond-clause-search g c =
    let b = c.args.b.now in
    let theta = c.args.theta.now in
    let budget = c.args.run.now.budget in
    ends_beyond b theta budget c.args.x c.loop-y.y c.requires.before c.loop-y.invariant.0
    (subst (λ (trial : Trial). MayTryRelated b theta budget (c.args.x, c.loop-y.y) (Ok trial)) c.in-Beyond.is c.in_ok-try_related.ensures.tried)

pub returns-in-Found-clause-search : goal.returns-in-Found-clause-search
returns-in-Found-clause-search g c =
    let b = c.args.b.now in
    let theta = c.args.theta.now in
    let budget = c.args.run.now.budget in
    ends_found b theta budget c.args.x c.loop-y.y c.in-Found.swap c.requires.before c.loop-y.invariant.0
    (subst (λ (trial : Trial). MayTryRelated b theta budget (c.args.x, c.loop-y.y) (Ok trial)) c.in-Found.is c.in_ok-try_related.ensures.tried)

pub returns-in_err-try_related-clause-search : goal.returns-in_err-try_related-clause-search
returns-in_err-try_related-clause-search g c =
    let p = err_from_is_err_and c.from_residual.result c.from_residual.ensures.1 in
    rw (p.1, p.2) c.in_err-try_related.ensures.tried.2

pub try_related-requires-clause-before : goal.try_related-requires-clause-before
try_related-requires-clause-before g c _ _ =
    let known = c.loop-y.known in
    met_ahead c.args.b.now c.args.theta.now c.args.run.now.budget c.args.x c.loop-y.y c.requires.before c.loop-y.invariant.0 known.least c.loop-y.invariant.1.0.met c.loop-y.invariant.1.1

pub returns-clause-search : goal.returns-clause-search
returns-clause-search g c =
    vain_next c.args.b.now c.args.theta.now c.args.run.now.budget c.args.x c.loop-y.y c.requires.before c.loop-y.invariant.0
    (λ d s. let r = s.right in let n = c.requires.size in omega (arith, r, n, c.loop-y-test.false, c.size-size.ensures.size))
