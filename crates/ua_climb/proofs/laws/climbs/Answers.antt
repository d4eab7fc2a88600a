use Rattle.ua_climb.proofs.ClimbsExist.{climb_exists}
use Rattle.ua_climb.proofs.laws.climbs.Goals as goal

pub returns : goal.returns
returns c = climb_exists
