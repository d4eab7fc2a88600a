use Rattle.std.proofs.Common.{◌-◌, ◌∙◌, arith}
use Rattle.ua_columns.proofs.fronts.front_of.Goals as goal

pub loop-i-preserved : goal.loop-i-preserved
loop-i-preserved c = record {
  long = c.enter.ensures.length ∙ c.loop-i.invariant.long;
  named = c.enter.ensures.named (c.args.count - 1) (omega arith) c.loop-i.invariant.named;
}
