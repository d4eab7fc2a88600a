use Rattle.std.proofs.Common.{◌≡◌, [], ◌∷◌, replicate, subst, sym}
use Rattle.std.specs.Prelude.{Ok, slice_index}
use Rattle.std.proofs.lemmas.Result.{err_from_is_err_and}
use Rattle.ua_table.specs.Algebras.{IsVector}
use Rattle.ua_close.specs.declared.reaches.Reach.{Reach}
use Rattle.ua_type.proofs.TrialLaws.{wide_all, MaySeek, met_back, closed_lacks, never_beyond}
use Rattle.ua_type.proofs.descents.ask.Goals as goal

pub sought-requires-clause-goal : goal.sought-requires-clause-goal
sought-requires-clause-goal g c _ _ =
    let is : c.in_ok-to_vec.field-0.items ≡ c.args.pair.0 ∷ c.args.pair.1 ∷ [] = c.in_ok-to_vec.ensures.items_if_clones_equal (λ y e h. h) in
    subst (IsVector (replicate 2 c.args.b.now)) (sym is) (c.requires.low, (c.requires.high, tt))

pub returns-in_err-sought : goal.returns-in_err-sought
returns-in_err-sought g c =
    let row = c.args.row.now in
    let p = err_from_is_err_and c.from_residual-in_err-sought.result c.from_residual-in_err-sought.ensures.1 in
    rw (p.1, p.2) (wide_all c.args.b.now c.args.run.now.budget (slice_index row 0) (slice_index row 1) c.in_err-sought.field-0.0 c.in_err-sought.ensures)

pub unreachable-requires : goal.unreachable-requires
unreachable-requires g c =
    let b = c.args.b.now in
    let budget = c.args.run.now.budget in
    let w = c.args.run.now.workers in
    let target = c.in_ok-to_vec.field-0 in
    let is : c.in_ok-to_vec.field-0.items ≡ c.args.pair.0 ∷ c.args.pair.1 ∷ [] = c.in_ok-to_vec.ensures.items_if_clones_equal (λ y e h. h) in
    never_beyond b budget w c.args.row.now c.args.pair target is c.in-Exceeds.field-0 c.requires.within
    (subst (λ (r : Reach). MaySeek b budget w c.args.row.now c.args.pair target is (Ok r)) c.in-Exceeds.is c.in_ok-sought.ensures)

pub returns-in-Met : goal.returns-in-Met
returns-in-Met g c =
    let b = c.args.b.now in
    let budget = c.args.run.now.budget in
    let w = c.args.run.now.workers in
    let target = c.in_ok-to_vec.field-0 in
    let is : c.in_ok-to_vec.field-0.items ≡ c.args.pair.0 ∷ c.args.pair.1 ∷ [] = c.in_ok-to_vec.ensures.items_if_clones_equal (λ y e h. h) in
    met_back b budget w c.args.row.now c.args.pair target is c.in-Met.field-0
    (subst (λ (r : Reach). MaySeek b budget w c.args.row.now c.args.pair target is (Ok r)) c.in-Met.is c.in_ok-sought.ensures)

pub returns : goal.returns
returns g c =
    let b = c.args.b.now in
    let budget = c.args.run.now.budget in
    let w = c.args.run.now.workers in
    let target = c.in_ok-to_vec.field-0 in
    let is : c.in_ok-to_vec.field-0.items ≡ c.args.pair.0 ∷ c.args.pair.1 ∷ [] = c.in_ok-to_vec.ensures.items_if_clones_equal (λ y e h. h) in
    closed_lacks b budget w c.args.row.now c.args.pair target is c.in-Closed.list c.requires.first c.requires.second c.requires.within c.requires.differ
    (subst (λ (r : Reach). MaySeek b budget w c.args.row.now c.args.pair target is (Ok r)) c.in-Closed.is c.in_ok-sought.ensures)
