use Rattle.std.proofs.Common.{length, ap, arith}
use Rattle.std.proofs.lemmas.List.FromFn.{length-range_with_len}
use Rattle.ua_lattice.proofs.joiner.Joiner.new.Goals as goal

pub invariant_of-result : goal.invariant_of-result
invariant_of-result c =
    let sets = ap length c.in_ok-sets.ensures in
    record { sized = omega (arith, sets, length-range_with_len 0 c.args.size, c.in_ok-row.ensures.len) }
