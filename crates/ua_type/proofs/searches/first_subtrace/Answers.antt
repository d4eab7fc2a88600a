use Rattle.std.proofs.Common.{sym, subst, arith}
use Rattle.std.proofs.lemmas.Result.{err_from_is_err_and}
use Rattle.ua_type.specs.inner.Known.{IsRelated}
use Rattle.ua_type.proofs.SearchLaws.{not_all_vain}
use Rattle.ua_type.proofs.searches.first_subtrace.Goals as goal

pub returns-in_err-search : goal.returns-in_err-search
returns-in_err-search g c =
    let p = err_from_is_err_and c.from_residual.result c.from_residual.ensures.1 in
    rw (p.1, p.2) c.in_err-search.ensures.search

pub unreachable-requires : goal.unreachable-requires
unreachable-requires g c =
    not_all_vain c.args.b.now c.args.theta.now c.args.run.now.budget c.requires.congruence c.requires.two
    (λ x y w s n. c.loop-x.invariant.0 x y (omega (arith, w, c.loop-x-test.false, c.size-size.ensures.size)) s n)

pub loop-x-init : goal.loop-x-init
loop-x-init g c = (
  λ x y w s n. absurd (omega (arith, w)),
  (c.new-known.ensures.right c.args.b.now c.args.run.now.budget, subst (IsRelated c.args.theta.now) (sym c.new-known.ensures.least) tt),
)
