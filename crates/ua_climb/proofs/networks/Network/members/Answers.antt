use Rattle.std.proofs.Common.{ap}
use Rattle.ua_climb.specs.Networks.{Network}
use Rattle.ua_climb.proofs.NetworkLaws.{members_are_states}
use Rattle.ua_climb.proofs.networks.Network.members.Goals as goal

pub returns-clause-states : goal.returns-clause-states
returns-clause-states c =
    members_are_states c.self.inside.leads.items c.self.inside.members.items c.args.self.now c.args.class c.index.result.now c.as_slice.result.now
    c.self.invariant (ap (λ (g : Network). g.leads) c.self.view_is) (ap (λ (g : Network). g.members) c.self.view_is) c.requires c.index.ensures
    c.as_slice.ensures.value
