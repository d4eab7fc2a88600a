use Rattle.ua_lattice.proofs.JoinedLaws.{joined_closed}
use Rattle.ua_lattice.proofs.laws.joined_with.Goals as goal

pub returns : goal.returns
returns c = λ list more p. joined_closed list more p
