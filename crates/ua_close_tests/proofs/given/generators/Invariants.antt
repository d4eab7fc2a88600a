use Rattle.std.proofs.Common.{◌≡◌, length}
use Rattle.std.specs.List.{AllByRecursion}
use Rattle.ua_table.specs.Algebras.{IsVector}
use Rattle.ua_close_tests.proofs.given.generators.Given as goal

abbrev pub invariant-loop-digits : goal.invariant-loop-digits
invariant-loop-digits g l = (l.gens.width ≡ length l.frame) × AllByRecursion (IsVector l.frame) l.gens.items
