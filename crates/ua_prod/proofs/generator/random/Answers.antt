use Rattle.std.proofs.Common.{sym, subst, ◌∙◌, arith}
use Rattle.ua_table.specs.Tables.{IsAlgebraTable}
use Rattle.ua_prod.proofs.DrawLaws.{drawn-IsAlgebraTable}
use Rattle.ua_prod.proofs.RenumberingLaws.{refused}
use Rattle.ua_prod.proofs.SizeLaws.{within_limits}
use Rattle.ua_prod.proofs.generator.random.Goals as goal

pub unreachable-requires : goal.unreachable-requires
unreachable-requires c =
    let made =
    drawn-IsAlgebraTable c.args.name c.args.size c.args.lcg.now c.args.arities.now c.requires.some (omega (arith, c.requires.small))
    c.requires.shape (within_limits c.args.size c.args.arities.now (sym c.is_too_large.ensures ∙ c.if-is_too_large.false)).1 in
    let tables = sym c.in_ok-tables.ensures.tables in
    let algebra = subst IsAlgebraTable (λ j. record { name = c.args.name; size = c.args.size; operations = tables j }) made in
    refused c.new.result _ c.in_default.is (c.new.ensures.made.1 algebra)
