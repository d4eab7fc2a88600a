use Rattle.std.proofs.Common.{◌*◌, sym, subst, ◌∙◌}
use Rattle.ua_table.specs.Tables.{IsTable}
use Rattle.ua_prod.proofs.ProductLaws.{paired-IsTable}
use Rattle.ua_prod.proofs.RenumberingLaws.{refused}
use Rattle.ua_prod.proofs.products.table_paired.Goals as goal

pub unreachable-requires : goal.unreachable-requires
unreachable-requires c =
    let made = paired-IsTable c.args.o.now c.args.p.now c.size.ensures.table c.size-2.ensures.table c.requires.few c.requires.values in
    let name = sym (c.in_ok-name.ensures ∙ c.name.ensures.name) in
    let arity = sym c.arity.ensures.arity in
    let values = sym c.in_ok-values.ensures in
    let table = subst IsTable (λ j. record { name = name j; size = sym c.size.ensures.size j * sym c.size-2.ensures.size j; arity = arity j; values = values j }) made in
    refused c.new.result _ c.in_default.is (c.new.ensures.made.1 table)
