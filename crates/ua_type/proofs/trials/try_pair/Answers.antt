use Rattle.std.proofs.Common.{replicate, sym, subst}
use Rattle.std.specs.Prelude.{Ok}
use Rattle.ua_close.specs.declared.close.Closure.{Closure}
use Rattle.ua_close.specs.Permitted.{MayClose}
use Rattle.ua_type.specs.Subtraces.{pair_generators}
use Rattle.ua_type.specs.inner.Descents.{AreGenerated}
use Rattle.ua_type.proofs.TrialLaws.{try_beyond, pairs_narrow, pairs_closed}
use Rattle.ua_type.proofs.DescentLaws.{first_descent}
use Rattle.ua_type.proofs.trials.try_pair.Goals as goal

pub returns-in-Exceeds-clause-tried : goal.returns-in-Exceeds-clause-tried
returns-in-Exceeds-clause-tried g c =
    let b = c.args.b.now in
    let budget = c.args.run.now.budget in
    let w = c.args.run.now.workers in
    try_beyond b budget w c.args.pair.0 c.args.pair.1 c.in-Exceeds.field-0
    (subst (λ (closure : Closure). MayClose (replicate 2 b) (pair_generators b c.args.pair.0 c.args.pair.1) budget w (Ok closure)) c.in-Exceeds.is c.in_ok-generated.ensures)

pub tried-requires-clause-narrow : goal.tried-requires-clause-narrow
tried-requires-clause-narrow g c _ _ =
    let b = c.args.b.now in
    let budget = c.args.run.now.budget in
    let w = c.args.run.now.workers in
    pairs_narrow b budget w c.args.pair.0 c.args.pair.1 c.in-Closed.list
    (subst (λ (closure : Closure). MayClose (replicate 2 b) (pair_generators b c.args.pair.0 c.args.pair.1) budget w (Ok closure)) c.in-Closed.is c.in_ok-generated.ensures)

pub tried-requires-clause-descent : goal.tried-requires-clause-descent
tried-requires-clause-descent g c _ _ =
    let b = c.args.b.now in
    let budget = c.args.run.now.budget in
    let w = c.args.run.now.workers in
    let made = c.in_ok-new-in-Closed.ensures in
    first_descent b budget c.args.pair c.in_ok-new-in-Closed.field-0 made.pair made.above c.requires.first c.requires.second c.requires.differ
    (subst (λ rows. AreGenerated b budget c.args.pair rows) (sym made.list)
    (pairs_closed b budget w c.args.pair.0 c.args.pair.1 c.in-Closed.list
    (subst (λ (closure : Closure). MayClose (replicate 2 b) (pair_generators b c.args.pair.0 c.args.pair.1) budget w (Ok closure)) c.in-Closed.is c.in_ok-generated.ensures)))
