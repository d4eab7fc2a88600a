use Rattle.std.proofs.Common.{ℕ, List, sym, subst}
use Rattle.std.specs.List.{AllByRecursion}
use Rattle.std.specs.Option.{IsSomeAnd}
use Rattle.std.proofs.lemmas.Result.{err_from_is_err_and}
use Rattle.ua_table.specs.Listings.{Row}
use Rattle.ua_type.specs.declared.descents.Sifted.{Sifted}
use Rattle.ua_type.specs.Outcomes.{IsMinimal}
use Rattle.ua_type.specs.inner.Outcomes.{IsVain}
use Rattle.ua_type.specs.Known.{IsSettled}
use Rattle.ua_type.specs.inner.Known.{IsKept}
use Rattle.ua_type.specs.inner.Descents.{IsSiftedTo, IsLacking, LeadsTo}
use Rattle.ua_type.proofs.KnownLaws.{known_vain, settle_kept, kept_down}
use Rattle.ua_type.proofs.DescentLaws.{descent_down, sifted_minimal, sifted_vain}
use Rattle.ua_type.proofs.trials.tried.Goals as goal

pub returns-in_err-sift-clause-tried : goal.returns-in_err-sift-clause-tried
returns-in_err-sift-clause-tried g c =
    let p = err_from_is_err_and c.from_residual.result c.from_residual.ensures.1 in
    rw (p.1, p.2) c.in_err-sift.ensures

pub returns-in-Minimal-clause-tried : goal.returns-in-Minimal-clause-tried
returns-in-Minimal-clause-tried g c =
    let b = c.args.b.now in
    let budget = c.args.run.now.budget in
    let d = c.sift.new.descent in
    let s = subst (λ (a : Sifted). IsSiftedTo b budget c.args.known.now c.args.descent d a) c.in-Minimal.is c.in_ok-sift.ensures in (
      c.requires.narrow,
      subst (λ (p : ℕ × ℕ). IsMinimal b budget p.0 p.1 c.has.result) s.pair_stays (sifted_minimal b budget d c.has.result s.descent s.sifted c.has.ensures),
    )

pub returns-in_err-go_down-in-Lacks-clause-tried :
    goal.returns-in_err-go_down-in-Lacks-clause-tried
returns-in_err-go_down-in-Lacks-clause-tried g c =
    let p = err_from_is_err_and c.from_residual-in_err-go_down-in-Lacks.result c.from_residual-in_err-go_down-in-Lacks.ensures.1 in
    rw (p.1, p.2) (λ _ _. tt)

pub descend-requires-clause-descent : goal.descend-requires-clause-descent
descend-requires-clause-descent g c _ _ =
    let b = c.args.b.now in
    let budget = c.args.run.now.budget in
    let d = c.sift.new.descent in
    let s = subst (λ (a : Sifted). IsSiftedTo b budget c.args.known.now c.args.descent d a) c.in-Lacks.is c.in_ok-sift.ensures in
    let down = c.in_ok-go_down-in-Lacks.ensures in
    descent_down b budget d c.go_down.new.self c.in-Lacks.pair down.pair down.above s.sifted.0
    (subst (λ (rows : List Row). IsLacking b budget c.in-Lacks.pair d.pair rows) (sym down.list) s.sifted.1) s.descent

pub returns-in_err-descend-in-Lacks-clause-tried :
    goal.returns-in_err-descend-in-Lacks-clause-tried
returns-in_err-descend-in-Lacks-clause-tried g c =
    let p = err_from_is_err_and c.from_residual-in_err-descend-in-Lacks.result c.from_residual-in_err-descend-in-Lacks.ensures.1 in
    rw (p.1, p.2) c.in_err-descend-in-Lacks.ensures

pub returns-in_ok-settle-in-Settled-clause-tried :
    goal.returns-in_ok-settle-in-Settled-clause-tried
returns-in_ok-settle-in-Settled-clause-tried g c =
    let b = c.args.b.now in
    let budget = c.args.run.now.budget in
    let known = c.args.known.now in
    let pair = c.args.descent.pair in
    let s = subst (λ (a : Sifted). IsSiftedTo b budget known c.args.descent c.sift.new.descent a) c.in-Settled.is c.in_ok-sift.ensures in (
      c.requires.narrow,
      known_vain b budget pair c.requires.descent.differ known.least c.requires.before
          (subst (λ (p : ℕ × ℕ). IsSomeAnd known.least (λ l. IsSettled b budget l p.0 p.1)) s.pair_stays s.sifted),
    )

pub returns-in_ok-settle-in-Settled-clause-kept : goal.returns-in_ok-settle-in-Settled-clause-kept
returns-in_ok-settle-in-Settled-clause-kept g c _ =
    let b = c.args.b.now in
    let budget = c.args.run.now.budget in
    let d = c.sift.new.descent in
    let s = subst (λ (a : Sifted). IsSiftedTo b budget c.args.known.now c.args.descent d a) c.in-Settled.is c.in_ok-sift.ensures in
    settle_kept b budget c.args.descent.pair.0 c.args.descent.pair.1 c.args.known.now c.settle.new.self d.pair c.as_slice.result.now c.requires.right
    c.in_ok-settle-in-Settled.ensures.least
    (λ q e. c.in_ok-settle-in-Settled.ensures.settled q e)
    s.sifted (subst (AllByRecursion (LeadsTo b budget d.pair)) (sym c.as_slice.ensures.value) s.descent.above)

pub returns-in_ok-descend-in-Lacks-clause-tried : goal.returns-in_ok-descend-in-Lacks-clause-tried
returns-in_ok-descend-in-Lacks-clause-tried g c =
    let b = c.args.b.now in
    let budget = c.args.run.now.budget in
    let d = c.sift.new.descent in
    let s = subst (λ (a : Sifted). IsSiftedTo b budget c.args.known.now c.args.descent d a) c.in-Lacks.is c.in_ok-sift.ensures in (
      c.requires.narrow,
      subst (λ (p : ℕ × ℕ). IsVain b budget p.0 p.1) s.pair_stays (sifted_vain b budget d c.in-Lacks.pair c.in-Lacks.list s.descent s.sifted.0 s.sifted.1),
    )

pub returns-in_ok-descend-in-Lacks-clause-kept : goal.returns-in_ok-descend-in-Lacks-clause-kept
returns-in_ok-descend-in-Lacks-clause-kept g c _ =
    let b = c.args.b.now in
    let budget = c.args.run.now.budget in
    let d = c.sift.new.descent in
    let pair = c.in-Lacks.pair in
    let s = subst (λ (a : Sifted). IsSiftedTo b budget c.args.known.now c.args.descent d a) c.in-Lacks.is c.in_ok-sift.ensures in
    let kept = subst (λ (p : ℕ × ℕ). IsKept b budget p.0 p.1 c.args.known.now c.descend.new.known) c.in_ok-go_down-in-Lacks.ensures.pair c.in_ok-descend-in-Lacks.ensures in
    subst (λ (p : ℕ × ℕ). IsKept b budget p.0 p.1 c.args.known.now c.descend.new.known) s.pair_stays
    (kept_down b budget d.pair.0 d.pair.1 pair.0 pair.1 c.args.known.now c.descend.new.known s.sifted.0 kept)
