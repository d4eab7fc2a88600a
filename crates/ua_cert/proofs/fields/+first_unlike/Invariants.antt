use Rattle.std.proofs.Common.{length}
use Rattle.ua_cert.proofs.fields.+first_unlike.Given as goal

abbrev pub decreases-first_unlike : goal.decreases-first_unlike
decreases-first_unlike l = length l.wanted.now
