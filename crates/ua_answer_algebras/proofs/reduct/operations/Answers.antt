use Rattle.std.proofs.Common.{◌≡◌, ◌<◌, [], length, nat_eq, sym, ap, subst, arith}
use Rattle.std.specs.List.{AllByRecursion, IsDistinct}
use Rattle.std.proofs.lemmas.Grind.{common_steps}
use Rattle.ua_table.specs.Algebras.{FiniteAlgebra}
use Rattle.ua_reply.specs.Checks.{shape_at, all_in}
use Rattle.ua_reply.proofs.CheckLaws.{parts_pass, each_passes}
use Rattle.ua_answer_algebras.specs.MakeCommand.{operation_in, numbers_of, repeated}
use Rattle.ua_answer_algebras.proofs.Reducts.{numbers_below, different}
use Rattle.ua_answer_algebras.proofs.reduct.operations.Goals as goal

pub overflow_cast-number_of : goal.overflow_cast-number_of
overflow_cast-number_of c =
    let most = c.number_of.ensures.most in
    let few = c.size-size.ensures.algebra.few in
    let same = ap (λ (a : FiniteAlgebra). length a.operations) c.algebra.ensures in
    omega (arith, most, few, same)

pub returns-clause-range : goal.returns-clause-range
returns-clause-range c =
    let k = c.args.known.now in
    let ws = c.args.names.now in
    let passed = parts_pass (all_in (operation_in k) ws) (shape_at (repeated k [] ws)) c.requires in
    let is : c.loop-name.ops.items ≡ numbers_of k ws = grind (arith, common_steps) in
    subst (AllByRecursion (λ f. f < length k.algebra.operations)) (sym is) (numbers_below k ws (each_passes (operation_in k) ws passed.0))

pub returns-clause-different : goal.returns-clause-different
returns-clause-different c =
    let k = c.args.known.now in
    let ws = c.args.names.now in
    let passed = parts_pass (all_in (operation_in k) ws) (shape_at (repeated k [] ws)) c.requires in
    let is : c.loop-name.ops.items ≡ numbers_of k ws = grind (arith, common_steps) in
    subst (IsDistinct nat_eq) (sym is) (different k [] ws passed.1.shape).0
