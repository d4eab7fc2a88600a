use Rattle.std.proofs.Common.{ℕ, sym, ap, ◌∙◌, subst}
use Rattle.ua_lanes.specs.LaneLists.{LaneList}
use Rattle.ua_lanes.specs.Lanes.{lanes_in}
use Rattle.ua_lanes.specs.Windows.{AreBitsOf}
use Rattle.ua_lanes.proofs.lanes.Lanes.known.Goals as goal
use Rattle.ua_lanes.proofs.lanes.Lanes.known.Goals.{in-Small, in-Large}

pub returns-clause-known : goal.returns-clause-known
returns-clause-known c = elim c.match-self.branch [
  | in-Small w ↦ subst (λ (q : LaneList × ℕ). AreBitsOf q.0.product q.0.items c.args.op c.args.args.now c.args.place q.1) (λ i. ((ap lanes_in (sym w.in-Small.is) ∙ c.self.view_is) i, sym w.result-is i)) w.known.ensures.known
  | in-Large w ↦ subst (λ (q : LaneList × ℕ). AreBitsOf q.0.product q.0.items c.args.op c.args.args.now c.args.place q.1) (λ i. ((ap lanes_in (sym w.in-Large.is) ∙ c.self.view_is) i, sym w.result-is i)) w.known-in-Large.ensures.known
]
