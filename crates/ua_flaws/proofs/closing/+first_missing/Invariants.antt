use Rattle.std.proofs.Common.{◌≡◌, ◌-◌, ◌+◌, length, take}
use Rattle.ua_flaws.specs.inner.Firsts.{first_behind}
use Rattle.ua_flaws.specs.Closing.{is_missing}
use Rattle.ua_flaws.proofs.WalkLaws.{from}
use Rattle.ua_flaws.proofs.closing.+first_missing.Given as goal

abbrev pub decreases-first_missing : goal.decreases-first_missing
decreases-first_missing l = l.arity - l.filled

-- nothing is missing with a smaller number at this place
abbrev pub invariant-loop-x : goal.invariant-loop-x
invariant-loop-x l = record {
  four : length l.next ≡ 4;
  begin : take l.filled l.next ≡ take l.filled l.fn.args;
  scratch : length l.scratch ≡ length l.table.operations;
  rest : first_behind (is_missing l.table.operations l.table.rows.now.items l.op) (length l.table.rows.now.items) (take l.filled l.fn.args)
      (l.arity - l.filled)
      ≡ from (is_missing l.table.operations l.table.rows.now.items l.op) (length l.table.rows.now.items) (take l.filled l.fn.args)
      (l.arity - (l.filled + 1)) l.x (length l.table.rows.now.items - l.x);
}
