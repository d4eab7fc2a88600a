use Rattle.ua_flaws.proofs.BasisLaws.{missing_found}
use Rattle.ua_flaws.proofs.closing.first_result.Goals as goal

pub returns-clause-first : goal.returns-clause-first
returns-clause-first c = missing_found c.args.table.now.operations c.args.table.now.rows.now.items c.args.op c.args.arity c.first_missing.result c.requires.arity c.first_missing.ensures.first
