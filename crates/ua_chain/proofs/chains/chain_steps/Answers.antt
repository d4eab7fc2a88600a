use Rattle.std.proofs.Common.{◌+◌, ◌-◌, ℕ, List, length, sym, ap, ◌∙◌, subst, ⊎_elim}
use Rattle.std.specs.Prelude.{slice_get}
use Rattle.std.proofs.lemmas.List.{length_push}
use Rattle.ua_table.proofs.Lists.{slice_get-push_cases}
use Rattle.ua_term.specs.Steps.{StepList}
use Rattle.ua_chain.specs.inner.Closures.{AreStepsAt}
use Rattle.ua_chain.proofs.chains.chain_steps.Goals as goal

pub loop-k-preserved : goal.loop-k-preserved
loop-k-preserved c =
    let pushed = c.in_ok-push.ensures.items in
    let at = AreStepsAt c.args.frame.now c.args.gens.now.items c.args.list.now c.args.rows.now (length c.args.gens.now.items - 1) in
    record {
      count = ap length pushed ∙ length_push c.loop-k.steps.items c.in_ok-term_steps.field-0 ∙ ap (λ (n : ℕ). n + 1) c.loop-k.invariant.count;
      steps = λ j s e. ⊎_elim
          (λ old. c.loop-k.invariant.steps j s old)
          (λ new. subst (λ (x : StepList). at j x) new.1 (subst (λ (i : ℕ). at i c.in_ok-term_steps.field-0) (sym c.loop-k.invariant.count ∙ sym new.0) c.in_ok-term_steps.ensures))
          (slice_get-push_cases c.loop-k.steps.items c.in_ok-term_steps.field-0 s j (ap (λ (xs : List StepList). slice_get xs j) (sym pushed) ∙ e));
    }
