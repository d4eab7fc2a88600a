use Rattle.std.proofs.Common.{◌≡◌, drop}
use Rattle.std.specs.Prelude.{slice_index, nat_lt}
use Rattle.std.specs.List.{list_all}
use Rattle.ua_flaws.proofs.ranks.are_smaller.Given as goal

abbrev pub invariant-loop-i : goal.invariant-loop-i
invariant-loop-i l = list_all (λ x. nat_lt (slice_index l.ranks x) l.rank) l.rows ≡ list_all (λ x. nat_lt (slice_index l.ranks x) l.rank) (drop l.i l.rows)
