use Rattle.std.proofs.Common.{sym, ap, subst, ◌∙◌}
use Rattle.ua_prod.specs.Draws.{state_after}
use Rattle.ua_script.specs.declared.script.Script.{Script}
use Rattle.ua_script.specs.Grammar.{IsWellFormed}
use Rattle.ua_shell.specs.Generated.{values_drawn, drawn_block, drawn_vectors, closing}
use Rattle.ua_shell.proofs.Generating.{generated_formed, generated_from}
use Rattle.ua_shell.proofs.generated.generated_script.Goals as goal

pub returns-clause-script : goal.returns-clause-script
returns-clause-script c =
    let start = c.new-lcg.ensures in
    let block = c.in_ok-block.ensures.block ∙ ap drawn_block start in
    let behind = c.in_ok-block.ensures.state ∙ ap (λ s. state_after s values_drawn) start in
    let gens = c.in_ok-gens.ensures ∙ ap (λ s. drawn_vectors s 4) behind in
    generated_from c.args.n c.in_ok-block.block c.in_ok-first.first c.in_ok-second.second c.new.result block (c.in_ok-first.ensures ∙ ap closing gens) c.in_ok-second.ensures
    (c.new.ensures ∙ c.in_ok-items.ensures.items)

pub returns-clause-formed : goal.returns-clause-formed
returns-clause-formed c = subst (λ (s : Script). IsWellFormed s) (sym (returns-clause-script c)) (generated_formed c.args.n)
