use Rattle.std.proofs.Common.{◌≡◌, ℕ, true, false, sym, ap, ◌∙◌, arith}
use Rattle.std.specs.Option.{option_map}
use Rattle.std.proofs.lemmas.Option.{get_or_from_slice_get}
use Rattle.ua_table.specs.Algebras.{Vector}
use Rattle.ua_flaws.specs.declared.flaws.Flaw.TheVariants as flaw
use Rattle.ua_flaws.specs.Firsts.{is_among}
use Rattle.ua_flaws.proofs.FirstLaws.{bad_later, bad_here}
use Rattle.ua_flaws.proofs.closing.generators.Goals as goal

pub loop-i-preserved : goal.loop-i-preserved
loop-i-preserved c =
    let v : Vector = c.get.result.now in
    let fine : is_among c.args.rows.now.items v ≡ true = sym c.is_row.ensures ∙ c.if-not-is_row.false in
    c.loop-i.invariant ∙ bad_later (λ (i : ℕ) (g : Vector). is_among c.args.rows.now.items g) c.args.gens.now.items c.loop-i.i v v
    (let l = c.loop-i-test.true in let e = c.len-i-end.ensures in omega arith) (sym (get_or_from_slice_get c.args.gens.now.items c.loop-i.i v v c.get.ensures.vector)) fine

pub returns-then-not-is_row : goal.returns-then-not-is_row
returns-then-not-is_row c =
    let v : Vector = c.get.result.now in
    let bad : is_among c.args.rows.now.items v ≡ false = sym c.is_row.ensures ∙ c.if-not-is_row.true in
    sym (ap (option_map flaw.Generator) (c.loop-i.invariant ∙ bad_here (λ (i : ℕ) (g : Vector). is_among c.args.rows.now.items g) c.args.gens.now.items c.loop-i.i v v
    (let l = c.loop-i-test.true in let e = c.len-i-end.ensures in omega arith) (sym (get_or_from_slice_get c.args.gens.now.items c.loop-i.i v v c.get.ensures.vector)) bad))
