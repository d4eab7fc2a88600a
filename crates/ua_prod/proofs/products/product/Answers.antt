use Rattle.std.proofs.Common.{◌≡◌, ◌*◌, sym, subst, ◌∙◌, false}
use Rattle.ua_table.specs.Algebras.{arities_of}
use Rattle.ua_table.specs.Numbering.{IsShape}
use Rattle.ua_table.specs.Tables.{IsAlgebraTable}
use Rattle.ua_prod.specs.Sizes.{is_too_large}
use Rattle.ua_prod.proofs.RenumberingLaws.{refused}
use Rattle.ua_prod.proofs.SizeLaws.{arities-IsShape, within_limits}
use Rattle.ua_prod.proofs.ProductLaws.{product-IsAlgebraTable}
use Rattle.ua_prod.proofs.products.product.Goals as goal

pub is_too_large-requires : goal.is_too_large-requires
is_too_large-requires c = subst IsShape (sym (c.as_slice.ensures.value ∙ c.in_ok-arities.ensures)) (arities-IsShape c.args.a.now c.size.ensures.algebra)

pub unreachable-requires : goal.unreachable-requires
unreachable-requires c =
    let a = c.args.a.now in
    let b = c.args.b.now in
    let arities = c.as_slice.ensures.value ∙ c.in_ok-arities.ensures in
    let test : is_too_large (c.args.a.now.size * c.args.b.now.size) (arities_of c.args.a.now) ≡ false =
    (λ j. is_too_large (sym c.size.ensures.size j * sym c.size-2.ensures.size j) (sym arities j)) ∙ sym c.is_too_large.ensures ∙ c.if-is_too_large.false in
    let limits = within_limits (a.size * b.size) (arities_of a) test in
    let made = product-IsAlgebraTable c.args.name a b c.size.ensures.algebra c.size-2.ensures.algebra (c.same_signature.ensures.same.0 c.if-not-same_signature.false) limits.0 limits.1 in
    let tables = sym c.in_ok-tables.ensures in
    let algebra = subst IsAlgebraTable (λ j. record { name = c.args.name; size = sym c.size.ensures.size j * sym c.size-2.ensures.size j; operations = tables j }) made in
    refused c.new.result _ c.in_default.is (c.new.ensures.made.1 algebra)
