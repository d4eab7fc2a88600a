use Rattle.std.proofs.Common.{sym, subst}
use Rattle.ua_table.specs.Tables.{IsAlgebraTable}
use Rattle.ua_prod.proofs.ReductLaws.{reduct-IsAlgebraTable}
use Rattle.ua_prod.proofs.RenumberingLaws.{refused}
use Rattle.ua_prod.proofs.reducts.reduct.Goals as goal

pub unreachable-requires : goal.unreachable-requires
unreachable-requires c =
    let made = reduct-IsAlgebraTable c.args.name c.args.a.now c.args.ops.now c.size.ensures.algebra c.requires.different c.requires.range in
    let size = sym c.size.ensures.size in
    let tables = sym c.in_ok-tables.ensures in
    let algebra = subst IsAlgebraTable (λ j. record { name = c.args.name; size = size j; operations = tables j }) made in
    refused c.new.result _ c.in_default.is (c.new.ensures.made.1 algebra)
