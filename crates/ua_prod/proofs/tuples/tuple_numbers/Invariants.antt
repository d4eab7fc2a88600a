use Rattle.std.proofs.Common.{◌≡◌, ◌^◌, ◌<◌, map}
use Rattle.std.specs.List.{AllByRecursion}
use Rattle.ua_table.specs.Algebras.{numeral}
use Rattle.ua_prod.specs.Constructions.{tuples_among}
use Rattle.ua_prod.proofs.tuples.tuple_numbers.Given as goal

abbrev pub invariant-loop : goal.invariant-loop
invariant-loop l = record {
  numbers : l.numbers.items ≡ map (numeral l.base) (tuples_among l.digits l.counter);
  below : AllByRecursion (λ m. m < l.base ^ l.counter) l.numbers.items;
}
