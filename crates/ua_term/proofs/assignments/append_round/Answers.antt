use Rattle.std.proofs.Common.{◌++◌, List, ℕ, replicate, sym, ap, ◌∙◌}
use Rattle.std.proofs.lemmas.List.{append_assoc}
use Rattle.ua_term.proofs.RunLaws.{round, runs_more}
use Rattle.ua_term.proofs.assignments.append_round.Goals as goal

pub loop-x-preserved : goal.loop-x-preserved
loop-x-preserved c =
    let old = c.args.row.now.items in
    let x = c.loop-x.x in
    let often = c.args.often in
    c.in_ok-append_run.ensures ∙ ap (λ (ys : List ℕ). ys ++ replicate often x) c.loop-x.invariant ∙ append_assoc old (round x often) (replicate often x)
    ∙ ap (λ (ys : List ℕ). old ++ ys) (sym (runs_more often x))
