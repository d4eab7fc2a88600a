use Rattle.std.proofs.Common.{◌≡◌, length, take, drop}
use Rattle.ua_flaws.specs.Firsts.{first_bad}
use Rattle.ua_flaws.specs.Flaws.{is_made}
use Rattle.ua_flaws.proofs.origins.origins.Given as goal

abbrev pub invariant-loop-i : goal.invariant-loop-i
invariant-loop-i l = record {
  scratch : length l.scratch ≡ l.table.rows.now.width;
  rest : first_bad (is_made l.a l.table.rows.now.width l.gens.items l.table.rows.now.items l.ranks) 0 (take (length l.table.rows.now.items) l.list)
      ≡ first_bad (is_made l.a l.table.rows.now.width l.gens.items l.table.rows.now.items l.ranks) l.i
      (drop l.i (take (length l.table.rows.now.items) l.list));
}
