use Rattle.ua_type.proofs.CoverLaws.{AreRows}
use Rattle.ua_type.proofs.tables.table_of.Given as goal

abbrev pub invariant-loop-k : goal.invariant-loop-k
invariant-loop-k g l = AreRows l.a l.run.budget l.list l.covers l.k l.rows.items
