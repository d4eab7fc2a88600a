use Rattle.std.proofs.Common.{sym, subst}
use Rattle.ua_prod.specs.Congruences.{IsCongruence}
use Rattle.ua_prod.proofs.CongruenceLaws.{full-IsCongruence}
use Rattle.ua_comm.proofs.members.successor.Goals as goal

pub commutator-requires-in-Lower-clause-alpha : goal.commutator-requires-in-Lower-clause-alpha
commutator-requires-in-Lower-clause-alpha g c _ _ = subst (IsCongruence c.args.a.now) (sym c.requires.full) (full-IsCongruence c.args.a.now c.size-size.ensures.algebra.algebra)
