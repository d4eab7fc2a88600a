use Rattle.std.proofs.Common.{◌≡◌, map, take}
use Rattle.ua_identity.specs.Patterns.{all_fillings, place_vector}
use Rattle.ua_identity.proofs.fillings.place_row.Given as goal

abbrev pub invariant-loop-item : goal.invariant-loop-item
invariant-loop-item g l = l.row.items ≡ place_vector (all_fillings l.size (map g.P.Patterned.pattern_of (take l.item-index l.list))) l.place
