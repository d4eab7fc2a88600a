use Rattle.std.proofs.Common.{◌≡◌, ◌++◌, map, replicate}
use Rattle.std.specs.List.{range_with_len}
use Rattle.ua_clone.proofs.frames.add_elements.Given as goal

-- the vectors of the elements so far stand behind those that stood there
abbrev pub invariant-loop-c : goal.invariant-loop-c
invariant-loop-c l = record {
  width : l.vectors.width ≡ l.fn.vectors.width;
  items : l.vectors.items ≡ l.fn.vectors.items ++ map (replicate l.fn.vectors.width) (range_with_len 0 l.c);
}
