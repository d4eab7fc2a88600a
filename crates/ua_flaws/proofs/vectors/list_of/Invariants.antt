use Rattle.std.proofs.Common.{◌≡◌, take, length}
use Rattle.ua_flaws.proofs.vectors.list_of.Given as goal

abbrev pub invariant-loop-v : goal.invariant-loop-v
invariant-loop-v l = record { width : l.list.width ≡ l.width; items : l.list.items ≡ take l.v-index l.vs; buffer : length l.vector.items ≡ l.width }
