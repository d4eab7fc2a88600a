use Rattle.std.proofs.Common.{◌≡◌, ◌+◌, ◌∷◌, take}
use Rattle.ua_reply.specs.Operands.{vectors_of}
use Rattle.ua_answer_conditions.proofs.clone.vectors_of.Given as goal

abbrev pub invariant-loop-v : goal.invariant-loop-v
invariant-loop-v l = record {
  width : l.list.width ≡ l.k + 1;
  items : l.list.items ≡ vectors_of l.known (l.first ∷ take l.v-index l.others);
}
