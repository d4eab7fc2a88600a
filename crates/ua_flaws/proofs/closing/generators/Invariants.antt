use Rattle.std.proofs.Common.{◌≡◌, ℕ, drop}
use Rattle.ua_table.specs.Algebras.{Vector}
use Rattle.ua_flaws.specs.Firsts.{first_bad, is_among}
use Rattle.ua_flaws.proofs.closing.generators.Given as goal

abbrev pub invariant-loop-i : goal.invariant-loop-i
invariant-loop-i l = first_bad (λ (i : ℕ) (g : Vector). is_among l.rows.items g) 0 l.gens.items ≡ first_bad (λ (i : ℕ) (g : Vector). is_among l.rows.items g) l.i (drop l.i l.gens.items)
