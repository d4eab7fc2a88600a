use Rattle.std.proofs.Common.{◌≡◌, take}
use Rattle.ua_term.specs.Trees.{tree_of, node_count}
use Rattle.ua_free.proofs.VariableLaws.{most_in}
use Rattle.ua_free.proofs.identities.+variables_of.Given as goal

abbrev pub decreases-variables_of : goal.decreases-variables_of
decreases-variables_of l = node_count (tree_of l.term.now)

-- the most of the arguments so far
abbrev pub invariant-loop-i : goal.invariant-loop-i
invariant-loop-i l = l.most ≡ most_in (take l.i l.terms.items)
