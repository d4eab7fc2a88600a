use Rattle.std.proofs.Common.{◌≡◌, ℕ, take, drop}
use Rattle.std.specs.List.{AllByRecursion}
use Rattle.ua_table.specs.Algebras.{Vector}
use Rattle.ua_flaws.specs.Firsts.{first_bad}
use Rattle.ua_flaws.specs.Shapes.{is_vector, IsOver}
use Rattle.ua_flaws.proofs.vectors.vectors.Given as goal

-- those so far are vectors
abbrev pub invariant-loop-i : goal.invariant-loop-i
invariant-loop-i l = record {
  rest : first_bad (λ (i : ℕ) (v : Vector). is_vector l.size l.width v) 0 l.vs ≡ first_bad (λ (i : ℕ) (v : Vector). is_vector l.size l.width v) l.i (drop l.i l.vs);
  done : AllByRecursion (IsOver l.size l.width) (take l.i l.vs);
}
