use Rattle.std.proofs.Common.{◌∷◌, [], length, sym, subst, ◌∙◌}
use Rattle.ua_table.specs.Refusals.{first_refusal}
use Rattle.ua_table.proofs.RefusalLaws.{passed}
use Rattle.ua_flaws.specs.Flaws.{Tells}
use Rattle.ua_check.specs.Reached.{odd_positions, rows_flaw, sides_flaw, reached_flaw, no_chain_lines}
use Rattle.ua_check.proofs.no_chains.no_chain_flaws.Goals as goal

pub returns : goal.returns
returns c =
    let a = c.args.a.now in let kind = c.in_ok-kind.kind in let rows = c.args.rows.now in let even = c.args.even.now in let odd = c.args.odd.now in
    let read = c.in_ok-list.ensures.rows in
    subst (λ f. Tells f c.positions_flaws.result)
    ((λ i. first_refusal (sides_flaw kind (length (read i)) even odd ∷ reached_flaw a kind (read i) even (odd_positions kind even odd) ∷ []))
    ∙ sym (passed (rows_flaw a kind rows) (sides_flaw kind (length rows) even odd ∷ reached_flaw a kind rows even (odd_positions kind even odd) ∷ []) c.in_ok-list.ensures.told)
    ∙ (λ i. first_refusal (no_chain_lines a (c.in_ok-kind.ensures i) rows even odd)))
    c.positions_flaws.ensures
