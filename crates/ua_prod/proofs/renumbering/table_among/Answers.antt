use Rattle.std.proofs.Common.{◌≡◌, length, refl, sym, subst, ◌∙◌, arith}
use Rattle.ua_table.specs.Tables.{IsTable}
use Rattle.ua_prod.specs.Constructions.{renumbered}
use Rattle.ua_prod.proofs.RenumberingLaws.{renumbered-IsTable, refused}
use Rattle.ua_prod.proofs.renumbering.table_among.Goals as goal

pub overflow_cast-size : goal.overflow_cast-size
overflow_cast-size c =
    let small = c.arity-arity.ensures.table.small in
    let few = c.requires.few in
    let l = c.len-size.ensures in
    let k = c.args.renumbering.now.members.ok.0 in
    omega (arith, small, few, l, k)

pub unreachable-requires : goal.unreachable-requires
unreachable-requires c =
    let o = c.args.table.now in
    let members = c.args.renumbering.now.members.items in
    let numbers = c.args.renumbering.now.numbers.items in
    let made : IsTable (renumbered members numbers o) = renumbered-IsTable members numbers c.requires.some o.size c.requires.few c.requires.numbers o c.arity-arity.ensures.table refl in
    let name = sym (c.in_ok-name.ensures ∙ c.name.ensures.name) in
    let size : length c.args.renumbering.now.members.items ≡ c.len-size.result = (let l = c.len-size.ensures in let k = c.args.renumbering.now.members.ok.0 in omega (arith, l, k)) in
    let arity = sym c.arity-arity.ensures.arity in
    let values = sym c.in_ok-values.ensures in
    let table = subst IsTable (λ j. record { name = name j; size = size j; arity = arity j; values = values j }) made in
    refused c.new.result _ c.in_default.is (c.new.ensures.made.1 table)
