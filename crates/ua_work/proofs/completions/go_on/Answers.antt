use Rattle.std.proofs.Common.{Option, Some, None, refl}
use Rattle.std.specs.Prelude.{MatchOption}
use Rattle.ua_bases.specs.Bases.{BasisView}
use Rattle.ua_work.specs.declared.completions.Completed.{Completed}
use Rattle.ua_work.specs.declared.replicas.Replica.{Replica}
use Rattle.ua_work.specs.inner.Workings.{IsAtWork}
use Rattle.ua_work.proofs.ReplicaLaws.{replica_scratch}
use Rattle.ua_work.proofs.WorkLaws.{same_scratch, same_work}
use Rattle.ua_work.proofs.GrowthLaws.{basis_further}
use Rattle.ua_work.proofs.completions.go_on.Goals as goal

told_of : (o : Option Completed) (A B : Type 0) (D : BasisView → Completed → Type 0) (b : BasisView) → (A → B) → MatchOption o A (λ completed. (c : BasisView) → D c completed) → MatchOption o B (D b)
told_of None A B D b f h = f h
told_of (Some completed) A B D b f h = h b

pub returns-else-not-is_shared-clause-told : goal.returns-else-not-is_shared-clause-told
returns-else-not-is_shared-clause-told c =
    let i = c.requires.completing in
    let old = c.args.replica.now in
    let r : Replica = record old { scratch = c.advance.new.scratch } in
    let e = c.put_result.ensures in
    let work : IsAtWork c.args.job.now r c.args.seat.now =
    same_work (same_scratch old r c.advance.new.scratch refl) (replica_scratch old c.advance.new.scratch i.work.goes.working.replica c.advance.ensures.width) i.work in
    told_of c.put_result.result _ _ _ c.advance.new.basis
    (λ h. record {
      work = h.0;
      basis = basis_further work h.0 e.worked c.args.op c.advance.new.basis record { associative = i.basis.associative; basis = c.advance.ensures.basis };
      recorded = h.1;
    })
    e.told
