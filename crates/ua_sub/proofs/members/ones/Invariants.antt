use Rattle.std.proofs.Common.{[], ◌∷◌}
use Rattle.std.specs.List.{AllZip}
use Rattle.ua_table.specs.Counting.{numbers_below}
use Rattle.ua_sub.specs.Members.{contents, AreMembers}
use Rattle.ua_sub.proofs.members.ones.Given as goal

abbrev pub invariant-loop-x : goal.invariant-loop-x
invariant-loop-x g l = AllZip (λ x members. AreMembers l.algebra (x ∷ []) members) (numbers_below l.x) (contents l.lists.items)
