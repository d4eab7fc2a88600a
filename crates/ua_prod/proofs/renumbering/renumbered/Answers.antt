use Rattle.std.proofs.Common.{◌≡◌, length, refl, sym, subst, arith}
use Rattle.ua_table.specs.Tables.{IsAlgebraTable}
use Rattle.ua_prod.specs.Constructions.{algebra_among}
use Rattle.ua_prod.proofs.RenumberingLaws.{among-IsAlgebraTable, refused}
use Rattle.ua_prod.proofs.renumbering.renumbered.Goals as goal

pub overflow_cast-size : goal.overflow_cast-size
overflow_cast-size c =
    let small = c.size-size.ensures.algebra.small in
    let few = c.requires.few in
    let l = c.len-size.ensures in
    let k = c.args.renumbering.now.members.ok.0 in
    omega (arith, small, few, l, k)

pub unreachable-requires : goal.unreachable-requires
unreachable-requires c =
    let a = c.args.a.now in
    let members = c.args.renumbering.now.members.items in
    let numbers = c.args.renumbering.now.numbers.items in
    let made : IsAlgebraTable (algebra_among c.args.name a members numbers) = among-IsAlgebraTable members numbers c.requires.some a.size c.requires.few c.requires.numbers c.args.name a c.size-size.ensures.algebra refl in
    let size : length c.args.renumbering.now.members.items ≡ c.len-size.result = (let l = c.len-size.ensures in let k = c.args.renumbering.now.members.ok.0 in omega (arith, l, k)) in
    let tables = sym c.in_ok-tables.ensures in
    let algebra = subst IsAlgebraTable (λ j. record { name = c.args.name; size = size j; operations = tables j }) made in
    refused c.new.result _ c.in_default.is (c.new.ensures.made.1 algebra)
