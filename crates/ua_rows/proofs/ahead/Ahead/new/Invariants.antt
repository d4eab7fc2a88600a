use Rattle.std.proofs.Common.{◌≡◌, length}
use Rattle.std.specs.List.{AllByRecursion}
use Rattle.ua_table.specs.Algebras.{Vector}
use Rattle.ua_rows.proofs.ahead.Ahead.new.Given as goal

abbrev pub invariant-loop : goal.invariant-loop
invariant-loop l = AllByRecursion (λ (v : Vector). length v ≡ l.width) l.vectors.items
