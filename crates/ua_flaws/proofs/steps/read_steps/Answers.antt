use Rattle.std.proofs.Common.{◌≡◌, Some, None, cond, ◌++◌, ◌∷◌, [], take, ◌∙◌, sym, ap, arith}
use Rattle.ua_cert.specs.declared.certs.CertStep.{CertStep}
use Rattle.ua_flaws.specs.Steps.{is_step, origin_of, origins_of}
use Rattle.ua_flaws.proofs.FirstLaws.{bad_later, map_more}
use Rattle.ua_flaws.proofs.StepLaws.{passed}
use Rattle.ua_flaws.proofs.steps.read_steps.Goals as goal

pub loop-i-preserved : goal.loop-i-preserved
loop-i-preserved c =
    let s : CertStep = c.index-list-i.result in
    let l = c.loop-i-test.true in
    let e : Some c.in-Some.origin ≡ cond (is_step c.args.a.now c.args.gens c.loop-i.i s) (Some (origin_of c.args.a.now s)) None = sym c.in-Some.is ∙ c.read_step.ensures in
    let p = passed c.args.a.now c.args.gens c.loop-i.i s c.in-Some.origin e in
    record {
      rest = c.loop-i.invariant.rest ∙ bad_later (is_step c.args.a.now c.args.gens) c.args.list.now c.loop-i.i s s (omega arith) c.index-list-i.is p.step;
      read = c.in_ok-keep-in-Some.ensures ∙ ap (λ os. os ++ c.in-Some.origin ∷ []) c.loop-i.invariant.read ∙ ap (λ o. origins_of c.args.a.now (take c.loop-i.i c.args.list.now) ++ o ∷ []) p.origin
          ∙ sym (map_more (origin_of c.args.a.now) c.args.list.now c.loop-i.i s (omega arith) c.index-list-i.is);
    }
