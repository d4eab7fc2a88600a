use Rattle.std.proofs.Common.{◌≡◌, ◌*◌, ◌≤◌, ◌^◌, length, map, take}
use Rattle.ua_table.specs.declared.limits.TheConstants.{SIZE}
use Rattle.ua_identity.specs.declared.limits.TheConstants.{LETTERS}
use Rattle.ua_identity.specs.Patterns.{all_fillings}
use Rattle.ua_identity.proofs.fillings.width_of.Given as goal

-- the coordinates of the patterns so far
abbrev pub invariant-loop-item : goal.invariant-loop-item
invariant-loop-item g l = record {
  width : l.width ≡ length (all_fillings l.size (map g.P.Patterned.pattern_of (take l.item-index l.list)));
  small : l.width ≤ l.item-index * SIZE ^ LETTERS;
}
