use Rattle.std.proofs.Common.{List, ℕ, subst, below_more}
use Rattle.std.specs.Prelude.{Option, IfSome, IfNone}
use Rattle.ua_prod.specs.inner.Searches.{Keeps, IsFirstEscapeOf}
use Rattle.ua_prod.proofs.EscapeLaws.{KeepsAt, keeps_at, first_in_order}
use Rattle.ua_prod.proofs.escapes.first_escape.Goals as goal

pub returns-in-Some-clause-some : goal.returns-in-Some-clause-some
returns-in-Some-clause-some c =
    let set = c.args.renumbering.now.members.items in
    first_in_order c.args.a.now set c.loop-op.op c.op.result.now c.op.ensures.algebra.algebra c.op.ensures.operation c.in-Some.args
    (subst (λ (r : Option (List ℕ)). IfSome r (IsFirstEscapeOf c.op.result.now set)) c.in-Some.is c.in_ok-args.ensures.some) c.loop-op.invariant

pub loop-op-preserved : goal.loop-op-preserved
loop-op-preserved c =
    let set = c.args.renumbering.now.members.items in
    below_more (KeepsAt c.args.a.now set) c.loop-op.op c.loop-op.invariant
    (keeps_at c.args.a.now set c.loop-op.op c.op.result.now c.op.ensures.algebra.algebra c.op.ensures.operation
    (subst (λ (r : Option (List ℕ)). IfNone r (Keeps c.op.result.now set)) c.in_default.is c.in_ok-args.ensures.none))
