use Rattle.std.proofs.Common.{◌≡◌, take}
use Rattle.ua_reply.specs.Operands.{vectors_of}
use Rattle.ua_reply.proofs.operands.vectors.Given as goal

abbrev pub invariant-loop-v : goal.invariant-loop-v
invariant-loop-v l = record {
  width : l.list.width ≡ l.width;
  items : l.list.items ≡ vectors_of l.known (take l.v-index l.vs);
}
