use Rattle.std.proofs.Common.{subst}
use Rattle.ua_lanes.specs.LaneLists.{LaneList}
use Rattle.ua_lanes.specs.Windows.{AreBitsOf}
use Rattle.ua_lanes.proofs.small_lanes.SmallLanes.known.Goals as goal

pub returns-clause-known : goal.returns-clause-known
returns-clause-known c = subst (λ (l : LaneList). AreBitsOf l.product l.items c.args.op c.args.args.now c.args.place c.known.result) c.self.view_is c.known.ensures.known
