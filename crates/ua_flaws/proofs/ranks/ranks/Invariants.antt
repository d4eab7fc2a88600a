use Rattle.std.proofs.Common.{◌≡◌, ℕ, ◌<◌, length, take, drop, slice_index_or, false}
use Rattle.std.specs.Prelude.{◌==◌}
use Rattle.std.specs.List.{list_any}
use Rattle.ua_flaws.specs.Firsts.{first_bad}
use Rattle.ua_flaws.specs.Flaws.{is_rank}
use Rattle.ua_flaws.proofs.ranks.ranks.Given as goal

-- the marked numbers are those so far
abbrev pub invariant-loop-i : goal.invariant-loop-i
invariant-loop-i l = record {
  count : length l.marks.items ≡ length l.rows;
  marked : (k : ℕ) → k < length l.rows → slice_index_or l.marks.items k false ≡ list_any (λ x. x == k) (take l.i l.ranks);
  rest : first_bad (is_rank (length l.rows) l.ranks) 0 (take (length l.rows) l.ranks) ≡ first_bad (is_rank (length l.rows) l.ranks) l.i (drop l.i (take (length l.rows) l.ranks));
}
