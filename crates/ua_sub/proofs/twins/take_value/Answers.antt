use Rattle.std.proofs.Common.{ℕ, ◌<◌, List, rules, sym, subst}
use Rattle.std.specs.Prelude.{Contains}
use Rattle.std.specs.List.{AllByRecursion}
use Rattle.ua_table.proofs.Lists.{all_weaker}
use Rattle.ua_prod.proofs.ClashLaws.{size_is}
use Rattle.ua_sub.specs.inner.Twins.{Generates, IsFound}
use Rattle.ua_sub.proofs.TwinLaws.{value_generated, all_found}
use Rattle.ua_sub.proofs.twins.take_value.Goals as goal

pub take_in-requires-clause-generated : goal.take_in-requires-clause-generated
take_in-requires-clause-generated c =
    let a = c.args.question.now.algebra.now in
    let x = c.args.question.now.element in
    let o = c.op-table.result.now in
    let all =
    all_found c.args.question.now c.args.found.now c.members_at-args.result c.arity.result c.requires.found
    (subst (λ (ms : List ℕ). AllByRecursion (Contains ms) c.members_at-args.result) c.as_slice.ensures.value c.members_at-args.ensures) in (
      subst (λ n. c.value-value.result < n) (size_is a c.args.op o c.op-table.ensures.algebra.algebra c.op-table.ensures.operation) c.value-value.ensures.element,
      subst (Generates a x) (sym c.value-value.ensures.value)
          (value_generated a x c.args.op o _ c.op-table.ensures.algebra.algebra c.op-table.ensures.operation c.requires.operation (search rules) (all_weaker (IsFound c.args.question.now) (Generates a x) (λ y h. h.1) _ all)),
    )
