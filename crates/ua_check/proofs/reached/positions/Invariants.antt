use Rattle.std.proofs.Common.{◌≡◌, ◌<◌, take, drop}
use Rattle.std.specs.List.{AllByRecursion}
use Rattle.ua_flaws.specs.Firsts.{first_bad}
use Rattle.ua_check.specs.Reached.{is_position}
use Rattle.ua_check.proofs.reached.positions.Given as goal

-- the positions so far are in range and ascend
abbrev pub invariant-loop-i : goal.invariant-loop-i
invariant-loop-i l = record {
  rest : first_bad (is_position l.n l.list) 0 l.list ≡ first_bad (is_position l.n l.list) l.i (drop l.i l.list);
  low : AllByRecursion (λ p. p < l.n) (take l.i l.list);
}
