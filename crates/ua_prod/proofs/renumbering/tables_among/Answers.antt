use Rattle.std.proofs.Common.{◌∷◌, [], ◌++◌, List, map, take, get_or, sym, ap, ◌∙◌}
use Rattle.std.proofs.lemmas.List.{map-append, take_more}
use Rattle.std.proofs.lemmas.Option.{get_or_from_slice_get, slice_get_within}
use Rattle.ua_table.specs.Algebras.{Operation}
use Rattle.ua_prod.specs.Constructions.{renumbered}
use Rattle.ua_prod.proofs.renumbering.tables_among.Goals as goal

pub loop-f-preserved : goal.loop-f-preserved
loop-f-preserved c =
    let members = c.args.renumbering.now.members.items in
    let numbers = c.args.renumbering.now.numbers.items in
    let ops = c.args.a.now.operations in
    let f = c.loop-f.f in
    let o = c.op.result.now in
    let w = slice_get_within ops f o c.op.ensures.operation in
    let there = get_or_from_slice_get ops f o o c.op.ensures.operation in
    c.in_ok-push.ensures.items
    ∙ ap (λ (ts : List Operation). ts ++ c.in_ok-table_among.field-0 ∷ []) c.loop-f.invariant
    ∙ ap (λ (t : Operation). map (renumbered members numbers) (take f ops) ++ t ∷ []) (c.in_ok-table_among.ensures ∙ ap (renumbered members numbers) (sym there))
    ∙ sym (ap (map (renumbered members numbers)) (take_more ops f o w) ∙ map-append (renumbered members numbers) (take f ops) (get_or ops f o ∷ []))
