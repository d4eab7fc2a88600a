use Rattle.std.proofs.Common.{◌≡◌, ◌-◌, ◌+◌, length, take}
use Rattle.ua_flaws.specs.inner.Firsts.{first_behind}
use Rattle.ua_check.specs.Equations.{differ}
use Rattle.ua_flaws.proofs.WalkLaws.{from}
use Rattle.ua_check.proofs.equations.+first_failure.Given as goal

abbrev pub decreases-first_failure : goal.decreases-first_failure
decreases-first_failure l = l.variables - l.filled

-- the sides differ nowhere with a smaller element at this place
abbrev pub invariant-loop-x : goal.invariant-loop-x
invariant-loop-x l = record {
  four : length l.next ≡ 4;
  room : length l.values ≡ length l.fn.values;
  begin : take l.filled l.next ≡ take l.filled l.fn.xs;
  rest : first_behind (differ l.a l.left l.right) l.a.size (take l.filled l.fn.xs) (l.variables - l.filled) ≡ from (differ l.a l.left l.right) l.a.size (take l.filled l.fn.xs) (l.variables - (l.filled + 1)) l.x (l.a.size - l.x);
}
