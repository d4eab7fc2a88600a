use Rattle.std.proofs.Common.{ℕ, List, refl, sym, subst}
use Rattle.std.specs.List.{AllByRecursion}
use Rattle.std.proofs.lemmas.Result.{err_from_is_err_and}
use Rattle.ua_table.specs.Listings.{Row}
use Rattle.ua_type.specs.declared.known.Known.{Known}
use Rattle.ua_type.specs.declared.descents.Sifted.{Sifted}
use Rattle.ua_type.specs.Subtraces.{Generates}
use Rattle.ua_type.specs.Known.{IsRight}
use Rattle.ua_type.specs.inner.Known.{IsKept}
use Rattle.ua_type.specs.inner.Descents.{IsSiftedTo, IsLacking, LeadsTo}
use Rattle.ua_type.proofs.GeneratedPairs.{generates_itself, generates_through}
use Rattle.ua_type.proofs.KnownLaws.{settle_kept, meet_kept, kept_twice, settled_class}
use Rattle.ua_type.proofs.DescentLaws.{descent_down, rows_two, stays}
use Rattle.ua_type.proofs.descents.descend.Goals as goal

pub loop-init : goal.loop-init
loop-init g c = (refl, c.requires.descent, generates_itself c.args.b.now c.args.descent.pair.0 c.args.descent.pair.1)

pub returns-in_err-pair : goal.returns-in_err-pair
returns-in_err-pair g c =
    let p = err_from_is_err_and c.from_residual.result c.from_residual.ensures.1 in
    rw (p.1, p.2) c.in_err-pair.ensures

pub returns-in_err-go_down-in-Lacks : goal.returns-in_err-go_down-in-Lacks
returns-in_err-go_down-in-Lacks g c =
    let p = err_from_is_err_and c.from_residual-in_err-go_down-in-Lacks.result c.from_residual-in_err-go_down-in-Lacks.ensures.1 in
    rw (p.1, p.2) (λ _ _. tt)

pub returns-in-Settled : goal.returns-in-Settled
returns-in-Settled g c =
    let b = c.args.b.now in
    let budget = c.args.run.now.budget in
    let s = subst (λ (a : Sifted). IsSiftedTo b budget c.loop.known c.loop.descent c.sift.new.descent a) c.in-Settled.is c.in_ok-pair.ensures in
    let right = subst (IsRight b budget) (sym c.loop.invariant.0) c.requires.right in
    subst (λ (k : Known). IsKept b budget c.args.descent.pair.0 c.args.descent.pair.1 k c.settle.new.self) c.loop.invariant.0
    (settle_kept b budget c.args.descent.pair.0 c.args.descent.pair.1 c.loop.known c.settle.new.self c.sift.new.descent.pair c.as_slice.result.now right
    c.in_ok-settle-in-Settled.ensures.least
    (λ q e. c.in_ok-settle-in-Settled.ensures.settled q e)
    s.sifted (subst (AllByRecursion (LeadsTo b budget c.sift.new.descent.pair)) (sym c.as_slice.ensures.value) s.descent.above))

pub meet_all-requires : goal.meet_all-requires
meet_all-requires g c =
    let b = c.args.b.now in
    let budget = c.args.run.now.budget in
    record { pairs = λ v in_it. rows_two b budget c.size-size.ensures.algebra.algebra c.sift.new.descent c.in_ok-pair.ensures.descent v in_it }

pub returns-in-Minimal : goal.returns-in-Minimal
returns-in-Minimal g c =
    let b = c.args.b.now in
    let budget = c.args.run.now.budget in
    let x = c.args.descent.pair.0 in
    let y = c.args.descent.pair.1 in
    let d = c.sift.new.descent in
    let s = subst (λ (a : Sifted). IsSiftedTo b budget c.loop.known c.loop.descent d a) c.in-Minimal.is c.in_ok-pair.ensures in
    let right = subst (IsRight b budget) (sym c.loop.invariant.0) c.requires.right in
    let below = stays b budget x y c.loop.descent d s.pair_stays c.loop.invariant.2 in
    let met = meet_kept b budget d.pair.0 d.pair.1 c.requires.narrow d.list s.descent.closed s.sifted x y below c.loop.known c.meet_all.new.self right c.meet_all.ensures.settled c.meet_all.ensures.least in
    let settled = settle_kept b budget x y c.meet_all.new.self c.settle-in-Minimal.new.self d.pair c.as_slice-in-Minimal.result.now met.right c.in_ok-settle-in-Minimal.ensures.least
    (λ q e. c.in_ok-settle-in-Minimal.ensures.settled q e)
    (settled_class b budget d.pair.0 d.pair.1 c.requires.narrow d.list s.descent.closed s.sifted s.descent.differ c.loop.known.least c.meet_all.new.self.least c.meet_all.ensures.least)
    (subst (AllByRecursion (LeadsTo b budget d.pair)) (sym c.as_slice-in-Minimal.ensures.value) s.descent.above) in
    subst (λ (k : Known). IsKept b budget x y k c.settle-in-Minimal.new.self) c.loop.invariant.0 (kept_twice b budget x y c.loop.known c.meet_all.new.self c.settle-in-Minimal.new.self met settled)

pub loop-preserved : goal.loop-preserved
loop-preserved g c =
    let b = c.args.b.now in
    let budget = c.args.run.now.budget in
    let x = c.args.descent.pair.0 in
    let y = c.args.descent.pair.1 in
    let d = c.sift.new.descent in
    let s = subst (λ (a : Sifted). IsSiftedTo b budget c.loop.known c.loop.descent d a) c.in-Lacks.is c.in_ok-pair.ensures in
    let below = stays b budget x y c.loop.descent d s.pair_stays c.loop.invariant.2 in
    let down = c.in_ok-go_down-in-Lacks.ensures in
    let pair = c.in-Lacks.pair in (
      c.loop.invariant.0,
      descent_down b budget d c.go_down.new.self pair down.pair down.above s.sifted.0
          (subst (λ (rows : List Row). IsLacking b budget pair d.pair rows) (sym down.list) s.sifted.1) s.descent,
      subst (λ (p : ℕ × ℕ). Generates b x y p.0 p.1) (sym down.pair) (generates_through b x y d.pair.0 d.pair.1 pair.0 pair.1 below s.sifted.0),
    )
