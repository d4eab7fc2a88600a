use Rattle.std.proofs.Common.{◌≡◌, ◌<◌, ℕ, List, [], ◌∷◌, length, sym, ap, subst, ◌∙◌, arith, Some}
use Rattle.std.specs.Prelude.{slice_index, slice_get}
use Rattle.std.proofs.lemmas.List.Elements.{All-from_recursion}
use Rattle.ua_table.specs.Algebras.{Operation}
use Rattle.ua_prod.specs.Translations.{row_at}
use Rattle.ua_prod.proofs.ClashLaws.{arity_is, size_is, table_at}
use Rattle.ua_cong.specs.inner.Closings.{IsForced}
use Rattle.ua_cong.proofs.ClosingLaws.{forced_rows}
use Rattle.ua_cong.proofs.hints.translated_along.Goals as goal

pub new-translations-requires : goal.new-translations-requires
new-translations-requires c = omega (arith, c.requires.place, arity_is c.args.a.now c.args.along.op c.op.result.now c.op.ensures.operation)

pub row-first-requires-clause-element : goal.row-first-requires-clause-element
row-first-requires-clause-element c =
    let same : c.new-translations.result.table.now.size ≡ c.args.a.now.size =
    ap (λ (o : Operation). o.size) c.new-translations.ensures.table
    ∙ size_is c.args.a.now c.args.along.op c.op.result.now c.op.ensures.algebra.algebra c.op.ensures.operation in
    omega (arith, same, c.requires.elements.0)

pub row-second-requires-clause-element : goal.row-second-requires-clause-element
row-second-requires-clause-element c =
    let same : c.new-translations.result.table.now.size ≡ c.args.a.now.size =
    ap (λ (o : Operation). o.size) c.new-translations.ensures.table
    ∙ size_is c.args.a.now c.args.along.op c.op.result.now c.op.ensures.algebra.algebra c.op.ensures.operation in
    omega (arith, same, c.requires.elements.1)

pub returns : goal.returns
returns c =
    let a = c.args.a.now in
    let o = c.new-translations.result.table.now in
    let alg = c.op.ensures.algebra in
    let stands : slice_get a.operations c.args.along.op ≡ Some o = c.op.ensures.operation ∙ ap (λ (q : Operation). Some q) (sym c.new-translations.ensures.table) in
    forced_rows a ((c.args.x, c.args.y) ∷ []) c.args.along.op o c.new-translations.result.place c.args.along.front c.args.x c.args.y alg.algebra
    (table_at a c.args.along.op o alg stands) stands c.requires.operation c.new-translations.result.placed
    (omega (arith, c.if-front-fronts.false, c.fronts.ensures)) (λ q cq rel. rel.0) c.row-first.result.now c.row-second.result.now c.row-first.ensures.row c.row-second.ensures.row c.row-first.ensures.length c.row-second.ensures.length
    c.row-first.ensures.elements c.row-second.ensures.elements c.args.along.back c.if-back-first.false
