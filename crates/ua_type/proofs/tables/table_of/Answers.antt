use Rattle.std.proofs.Common.{◌<◌, length, get_or, refl, arith}
use Rattle.std.specs.Prelude.{Ok, Err}
use Rattle.std.proofs.lemmas.Result.{err_from_is_err_and}
use Rattle.ua_type.proofs.CoverLaws.{row_more, refused_here, lower_within, upper_within, cover_read, type_read}
use Rattle.ua_type.proofs.tables.table_of.Goals as goal

pub bounds-list-i : goal.bounds-list-i
bounds-list-i g c = lower_within c.args.a.now c.args.list.now c.args.covers.now c.requires c.loop-k.k (omega (arith, c.loop-k-test.true))

pub bounds-list-j : goal.bounds-list-j
bounds-list-j g c = upper_within c.args.a.now c.args.list.now c.args.covers.now c.requires c.loop-k.k (omega (arith, c.loop-k-test.true))

pub type_of-requires-after_bounds : goal.type_of-requires-after_bounds
type_of-requires-after_bounds g c _ _ = cover_read c.args.a.now c.args.list.now c.args.covers.now c.requires c.loop-k.k (omega (arith, c.loop-k-test.true)) c.index-list-i.result c.index-list-j.result c.index-list-i.is c.index-list-j.is

pub returns-in_err-typed : goal.returns-in_err-typed
returns-in_err-typed g c =
    let a = c.args.a.now in
    let list = c.args.list.now in
    let covers = c.args.covers.now in
    let budget = c.args.run.now.budget in
    let k = c.loop-k.k in
    let w : c.loop-k.k < length c.args.covers.now = omega (arith, c.loop-k-test.true) in
    let e = c.in_err-typed.field-0.0 in
    let p = err_from_is_err_and c.from_residual-in_err-typed.result c.from_residual-in_err-typed.ensures.1 in
    rw (p.1, p.2) (refused_here a budget list covers k c.loop-k.rows.items (get_or covers k (0, 0)) w refl c.loop-k.invariant e
    (type_read a list covers c.requires k w c.index-list-i.result c.index-list-j.result budget (Err e) c.index-list-i.is c.index-list-j.is c.in_err-typed.ensures.permitted))

pub loop-k-preserved : goal.loop-k-preserved
loop-k-preserved g c =
    let a = c.args.a.now in
    let list = c.args.list.now in
    let covers = c.args.covers.now in
    let budget = c.args.run.now.budget in
    let k = c.loop-k.k in
    let w : c.loop-k.k < length c.args.covers.now = omega (arith, c.loop-k-test.true) in
    row_more a budget list covers k c.loop-k.rows.items (get_or covers k (0, 0)) w refl c.loop-k.invariant c.push_row.new.rows.items c.in_ok-typed.typed c.in_ok-push_row.ensures
    (type_read a list covers c.requires k w c.index-list-i.result c.index-list-j.result budget (Ok c.in_ok-typed.typed) c.index-list-i.is c.index-list-j.is c.in_ok-typed.ensures.permitted)
