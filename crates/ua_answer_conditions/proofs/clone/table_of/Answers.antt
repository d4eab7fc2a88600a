use Rattle.std.proofs.Common.{◌≡◌, ◌^◌, ◌<◌, List, [], ◌∷◌, length, sym, subst, arith}
use Rattle.std.specs.List.{AllByRecursion}
use Rattle.ua_operands.specs.declared.written.Items.{Items}
use Rattle.ua_operands.specs.declared.written.PointsText.{PointsText}
use Rattle.ua_operands.specs.declared.written.PointsText.TheVariants.{Total, Partial}
use Rattle.ua_reply.specs.Checks.{Passes}
use Rattle.ua_reply.specs.Operands.{elements_in, length_in}
use Rattle.ua_reply.proofs.CheckLaws.{parts_pass}
use Rattle.ua_answer_conditions.specs.CloneCommand.{points_in, clone_checks}
use Rattle.ua_answer_conditions.proofs.WrittenTables.{table_passes, few_variables, total_is}
use Rattle.ua_answer_conditions.proofs.clone.table_of.Goals as goal

pub elements-requires : goal.elements-requires
elements-requires c =
    let b = c.args.known.now in
    let k = c.args.k in
    let v = c.in-Total.values in
    let h = table_passes b k (Total v) (subst (λ (p : PointsText). Passes (clone_checks b k p)) c.in-Total.is c.requires.checks) in
    record { passed = (parts_pass (elements_in b v.values) (length_in (b.algebra.size ^ k.value) v) h).0 }

pub vectors_of-requires-clause-checks : goal.vectors_of-requires-clause-checks
vectors_of-requires-clause-checks c =
    let b = c.args.known.now in
    let k = c.args.k in
    subst (λ (vs : List Items). Passes (points_in b k.value [] (c.in-Partial.first ∷ vs))) (sym c.as_slice.ensures)
    (table_passes b k (Partial c.in-Partial.first c.in-Partial.others) (subst (λ (p : PointsText). Passes (clone_checks b k p)) c.in-Partial.is c.requires.checks))

pub vectors_of-requires-clause-small : goal.vectors_of-requires-clause-small
vectors_of-requires-clause-small c =
    let few = few_variables c.args.known.now c.args.k c.args.points.now c.requires.checks in
    omega (arith, few)

pub returns-in_ok-elements-in-Total-clause-table :
    goal.returns-in_ok-elements-in-Total-clause-table
returns-in_ok-elements-in-Total-clause-table c =
    let b = c.args.known.now in
    let k = c.args.k in
    let v = c.in-Total.values in
    let h = table_passes b k (Total v) (subst (λ (p : PointsText). Passes (clone_checks b k p)) c.in-Total.is c.requires.checks) in
    subst (λ xs. (length xs ≡ b.algebra.size ^ k.value) × AllByRecursion (λ x. x < b.algebra.size) xs) (sym c.in_ok-elements-in-Total.ensures.values) (total_is b (b.algebra.size ^ k.value) v h)
