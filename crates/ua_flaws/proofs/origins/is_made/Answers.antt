use Rattle.std.proofs.Common.{◌<◌, ℕ, List, [], length, refl, sym, ap, ◌∙◌, subst}
use Rattle.std.specs.Prelude.{slice_index, nat_lt}
use Rattle.std.specs.List.{AllByRecursion, list_all}
use Rattle.std.proofs.lemmas.Option.{get_or_from_slice_get}
use Rattle.ua_table.specs.declared.origins.Origin.TheVariants.{Gen, Op}
use Rattle.ua_table.specs.Algebras.{apply, power}
use Rattle.ua_rows.specs.RowLists.{rows_at}
use Rattle.ua_flaws.specs.Firsts.{is_same}
use Rattle.ua_flaws.proofs.OriginLaws.{passed_at, all_named, arity_in, made_generator, made_high, made_operation}
use Rattle.ua_flaws.proofs.origins.is_made.Goals as goal

pub are_smaller-requires : goal.are_smaller-requires
are_smaller-requires c =
    let p =
    passed_at c.args.a.now c.len.result (length c.args.gens.now.items) c.len-2.result (length c.args.table.now.rows.now.items) c.args.step.now
    c.in-Some.origin (Op c.in-Op.op c.in-Op.args) c.read_step.result c.len.ensures c.len-2.ensures.len c.in-Some.is c.in-Op.is
    c.read_step.ensures in
    subst (AllByRecursion (λ x. x < length c.args.ranks.now)) (sym c.as_slice-args.ensures)
    (all_named c.args.a.now (length c.args.gens.now.items) (length c.args.table.now.rows.now.items) (length c.args.ranks.now) c.args.step.now c.in-Op.op c.in-Op.args p (sym c.requires.ranks))

pub apply-requires-clause-operation : goal.apply-requires-clause-operation
apply-requires-clause-operation c =
    let p =
    passed_at c.args.a.now c.len.result (length c.args.gens.now.items) c.len-2.result (length c.args.table.now.rows.now.items) c.args.step.now
    c.in-Some.origin (Op c.in-Op.op c.in-Op.args) c.read_step.result c.len.ensures c.len-2.ensures.len c.in-Some.is c.in-Op.is
    c.read_step.ensures in
    (arity_in c.args.a.now c.args.table.now.rows.now.width c.args.table.now.operations (length c.args.gens.now.items)
    (length c.args.table.now.rows.now.items) c.args.step.now c.in-Op.op c.in-Op.args p c.requires.table.product c.requires.table.some).0

pub apply-requires-clause-arity : goal.apply-requires-clause-arity
apply-requires-clause-arity c =
    let p =
    passed_at c.args.a.now c.len.result (length c.args.gens.now.items) c.len-2.result (length c.args.table.now.rows.now.items) c.args.step.now
    c.in-Some.origin (Op c.in-Op.op c.in-Op.args) c.read_step.result c.len.ensures c.len-2.ensures.len c.in-Some.is c.in-Op.is
    c.read_step.ensures in
    ap length c.as_slice-args.ensures
    ∙ (arity_in c.args.a.now c.args.table.now.rows.now.width c.args.table.now.operations (length c.args.gens.now.items)
    (length c.args.table.now.rows.now.items) c.args.step.now c.in-Op.op c.in-Op.args p c.requires.table.product c.requires.table.some).1

pub apply-requires-clause-named : goal.apply-requires-clause-named
apply-requires-clause-named c =
    let p =
    passed_at c.args.a.now c.len.result (length c.args.gens.now.items) c.len-2.result (length c.args.table.now.rows.now.items) c.args.step.now
    c.in-Some.origin (Op c.in-Op.op c.in-Op.args) c.read_step.result c.len.ensures c.len-2.ensures.len c.in-Some.is c.in-Op.is
    c.read_step.ensures in
    subst (AllByRecursion (λ x. x < length c.args.table.now.rows.now.items)) (sym c.as_slice-args.ensures)
    (all_named c.args.a.now (length c.args.gens.now.items) (length c.args.table.now.rows.now.items) (length c.args.table.now.rows.now.items) c.args.step.now c.in-Op.op c.in-Op.args p refl)

pub returns-in-Gen-clause-made : goal.returns-in-Gen-clause-made
returns-in-Gen-clause-made c =
    let p =
    passed_at c.args.a.now c.len.result (length c.args.gens.now.items) c.len-2.result (length c.args.table.now.rows.now.items) c.args.step.now
    c.in-Some.origin (Gen c.in-Gen.index) c.read_step.result c.len.ensures c.len-2.ensures.len c.in-Some.is c.in-Gen.is c.read_step.ensures in
    made_generator c.args.a.now c.args.table.now.rows.now.width c.args.gens.now.items c.args.table.now.rows.now.items c.args.ranks.now c.args.i c.args.step.now c.in-Gen.index c.get.result.now c.row.result.now c.eq.result p
    (get_or_from_slice_get c.args.gens.now.items c.in-Gen.index c.get.result.now [] c.get.ensures.vector)
    (get_or_from_slice_get c.args.table.now.rows.now.items c.args.i c.row.result.now [] c.row.ensures.row) c.eq.ensures

pub returns-then-not-are_smaller-clause-made : goal.returns-then-not-are_smaller-clause-made
returns-then-not-are_smaller-clause-made c =
    let p =
    passed_at c.args.a.now c.len.result (length c.args.gens.now.items) c.len-2.result (length c.args.table.now.rows.now.items) c.args.step.now
    c.in-Some.origin (Op c.in-Op.op c.in-Op.args) c.read_step.result c.len.ensures c.len-2.ensures.len c.in-Some.is c.in-Op.is
    c.read_step.ensures in
    made_high c.args.a.now c.args.table.now.rows.now.width c.args.gens.now.items c.args.table.now.rows.now.items c.args.ranks.now c.args.i c.args.step.now c.in-Op.op c.in-Op.args p
    (ap (list_all (λ x. nat_lt (slice_index c.args.ranks.now x) (slice_index c.args.ranks.now c.args.i))) (sym c.as_slice-args.ensures) ∙ sym c.are_smaller.ensures ∙ c.if-not-are_smaller.true)

pub returns-else-not-are_smaller-clause-made : goal.returns-else-not-are_smaller-clause-made
returns-else-not-are_smaller-clause-made c =
    let p =
    passed_at c.args.a.now c.len.result (length c.args.gens.now.items) c.len-2.result (length c.args.table.now.rows.now.items) c.args.step.now
    c.in-Some.origin (Op c.in-Op.op c.in-Op.args) c.read_step.result c.len.ensures c.len-2.ensures.len c.in-Some.is c.in-Op.is
    c.read_step.ensures in
    made_operation c.args.a.now c.args.table.now.rows.now.width c.args.gens.now.items c.args.table.now.rows.now.items c.args.ranks.now c.args.i
    c.args.step.now c.in-Op.op c.in-Op.args c.apply.new.out c.row-in-Op.result.now c.eq-in-Op.result c.requires.table.some p
    (ap (list_all (λ x. nat_lt (slice_index c.args.ranks.now x) (slice_index c.args.ranks.now c.args.i))) (sym c.as_slice-args.ensures) ∙ sym c.are_smaller.ensures ∙ c.if-not-are_smaller.false)
    (c.apply.ensures.value ∙ ap (λ q. apply q c.in-Op.op (rows_at c.args.table.now.rows.now.items c.as_slice-args.result.now)) c.requires.table.product
    ∙ ap (λ (xs : List ℕ). apply (power c.args.a.now c.args.table.now.rows.now.width) c.in-Op.op (rows_at c.args.table.now.rows.now.items xs)) c.as_slice-args.ensures)
    (get_or_from_slice_get c.args.table.now.rows.now.items c.args.i c.row-in-Op.result.now [] c.row-in-Op.ensures.row)
    (c.eq-in-Op.ensures ∙ ap (λ v. is_same v c.row-in-Op.result.now) c.as_slice.ensures)
