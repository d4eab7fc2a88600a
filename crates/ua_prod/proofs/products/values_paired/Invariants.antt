use Rattle.std.proofs.Common.{◌≡◌, map, take}
use Rattle.ua_prod.proofs.ProductLaws.{tuples_of_pairs, paired_value}
use Rattle.ua_prod.proofs.products.values_paired.Given as goal

abbrev pub invariant-loop-i : goal.invariant-loop-i
invariant-loop-i l = l.values.items ≡ map (paired_value l.o l.p) (take l.i (tuples_of_pairs l.o l.p))
