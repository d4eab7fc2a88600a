use Rattle.std.proofs.Common.{◌≡◌, map, take}
use Rattle.std.specs.Prelude.{zip}
use Rattle.ua_table.specs.Algebras.{Operation}
use Rattle.ua_prod.specs.Constructions.{paired}
use Rattle.ua_prod.proofs.products.tables_paired.Given as goal

abbrev pub invariant-loop-f : goal.invariant-loop-f
invariant-loop-f l = l.tables.items ≡ map (λ (both : Operation × Operation). paired both.0 both.1) (take l.f (zip l.a.operations l.b.operations))
