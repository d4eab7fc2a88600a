use Rattle.ua_bases.proofs.ClosedBases.{closed_by_bases}
use Rattle.ua_flaws.proofs.BasisLaws.{associative_power, none_missing}
use Rattle.ua_flaws.proofs.closing.is_known_closed.Goals as goal

pub advance-progress-requires-clause-basis : goal.advance-progress-requires-clause-basis
advance-progress-requires-clause-basis c = c.new-basis.ensures.basis c.args.table.now.operations c.args.op c.args.table.now.rows.now.items

pub returns-in-Complete-clause-closed : goal.returns-in-Complete-clause-closed
returns-in-Complete-clause-closed c = λ t.
    let p = c.args.table.now.operations in
    let rows = c.args.table.now.rows.now in
    let f = c.args.op in
    let table = c.requires.table in
    let associative = associative_power c.args.a.now rows.width f p c.size.ensures.algebra.algebra table.some table.product (c.is_associative_in.ensures.0 c.if-not-is_associative_in.false) in
    let closed = closed_by_bases p f rows.items c.advance-progress.new.basis associative table.vectors c.in-Complete.ensures.basis c.in-Complete.ensures.told in
    none_missing p rows.items f associative.binary closed
