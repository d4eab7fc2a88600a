use Rattle.std.proofs.Common.{◌≡◌, ◌<◌, ℕ, List, sym, ap, subst, ◌∙◌, arith, Some}
use Rattle.std.specs.Prelude.{slice_index, slice_get}
use Rattle.std.specs.List.{AllByRecursion}
use Rattle.std.proofs.lemmas.List.Elements.{All-from_recursion}
use Rattle.ua_table.specs.Algebras.{Operation}
use Rattle.ua_prod.specs.Translations.{row_at}
use Rattle.ua_prod.proofs.ClashLaws.{arity_is, size_is, table_at}
use Rattle.ua_type.specs.Subtraces.{Generates}
use Rattle.ua_type.proofs.MarkLaws.{translated}
use Rattle.ua_type.proofs.leads.reaches_along.Goals as goal

pub new-translations-requires : goal.new-translations-requires
new-translations-requires c = omega (arith, c.requires.place, arity_is c.args.b.now c.args.op c.op.result.now c.op.ensures.operation)

pub row-firsts-requires-clause-element : goal.row-firsts-requires-clause-element
row-firsts-requires-clause-element c =
    let same : c.new-translations.result.table.now.size ≡ c.args.b.now.size =
    ap (λ (o : Operation). o.size) c.new-translations.ensures.table
    ∙ size_is c.args.b.now c.args.op c.op.result.now c.op.ensures.algebra.algebra c.op.ensures.operation in
    omega (arith, same, c.requires.first)

pub row-seconds-requires-clause-element : goal.row-seconds-requires-clause-element
row-seconds-requires-clause-element c =
    let same : c.new-translations.result.table.now.size ≡ c.args.b.now.size =
    ap (λ (o : Operation). o.size) c.new-translations.ensures.table
    ∙ size_is c.args.b.now c.args.op c.op.result.now c.op.ensures.algebra.algebra c.op.ensures.operation in
    omega (arith, same, c.requires.second)

pub meet-requires-clause-firsts : goal.meet-requires-clause-firsts
meet-requires-clause-firsts c =
    let same : c.new-translations.result.table.now.size ≡ c.args.b.now.size =
    ap (λ (o : Operation). o.size) c.new-translations.ensures.table
    ∙ size_is c.args.b.now c.args.op c.op.result.now c.op.ensures.algebra.algebra c.op.ensures.operation in
    subst (λ (n : ℕ). AllByRecursion (λ v. v < n) c.row-firsts.result.now) (same ∙ sym c.requires.size) c.row-firsts.ensures.elements

pub meet-requires-clause-seconds : goal.meet-requires-clause-seconds
meet-requires-clause-seconds c =
    let same : c.new-translations.result.table.now.size ≡ c.args.b.now.size =
    ap (λ (o : Operation). o.size) c.new-translations.ensures.table
    ∙ size_is c.args.b.now c.args.op c.op.result.now c.op.ensures.algebra.algebra c.op.ensures.operation in
    subst (λ (n : ℕ). AllByRecursion (λ v. v < n) c.row-seconds.result.now) (same ∙ sym c.requires.size) c.row-seconds.ensures.elements

pub returns-then-meet : goal.returns-then-meet
returns-then-meet c _ =
    let b = c.args.b.now in
    let o = c.new-translations.result.table.now in
    let place = c.new-translations.result.place in
    let front = c.loop-front.front in
    let alg = c.op.ensures.algebra in
    let stands : slice_get b.operations c.args.op ≡ Some o = c.op.ensures.operation ∙ ap (λ (q : Operation). Some q) (sym c.new-translations.ensures.table) in
    let t = table_at b c.args.op o alg stands in
    let same : o.size ≡ b.size = size_is b c.args.op o alg.algebra stands in
    let met = c.meet.ensures c.if-meet.true in
    let k = met.place in
    let w = met.within in
    let g =
    translated b c.args.pair.0 c.args.pair.1 c.args.op o place front k alg.algebra t stands c.requires.operation c.new-translations.result.placed
    (omega (arith, c.loop-front-test.true, c.fronts-front-end.ensures)) (omega (arith, w, c.row-firsts.ensures.length)) in
    let low = All-from_recursion (λ v. v < o.size) c.row-seconds.result.now c.row-seconds.ensures.elements k 0 (omega (arith, w, c.row-firsts.ensures.length, c.row-seconds.ensures.length)) in
    record {
      first = slice_index c.row-firsts.result.now k;
      second = slice_index c.row-seconds.result.now k;
      below = omega (arith, low, same);
      generated = subst (λ (xs : List ℕ). Generates b c.args.pair.0 c.args.pair.1 (slice_index xs k) (slice_index c.row-seconds.result.now k)) (sym c.row-firsts.ensures.row)
          (subst (λ (ys : List ℕ). Generates b c.args.pair.0 c.args.pair.1 (slice_index (row_at o place front c.args.pair.0) k) (slice_index ys k)) (sym c.row-seconds.ensures.row) g);
      marked = met.marked;
    }
