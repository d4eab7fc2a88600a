use Rattle.ua_term.specs.Trees.{tree_of}
use Rattle.ua_free.proofs.WalkLaws.{IsNumbered, HoldsBelow}
use Rattle.ua_free.proofs.identities.holds.Given as goal

-- the assignments so far agree, and the next one is there
abbrev pub invariant-loop : goal.invariant-loop
invariant-loop l = record {
  walk : IsNumbered l.a.size l.variables l.counter l.xs.items;
  below : HoldsBelow l.a l.variables (tree_of l.s) (tree_of l.t) l.counter;
}
