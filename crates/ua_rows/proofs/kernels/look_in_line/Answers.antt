use Rattle.std.proofs.Common.{◌+◌}
use Rattle.ua_rows.proofs.LineLaws.{looked_first, looked_second}
use Rattle.ua_rows.proofs.kernels.look_in_line.Goals as goal

pub returns-clause-first : goal.returns-clause-first
returns-clause-first c = (looked_first c.args.line.now c.args.first (c.args.second + 9223512776490647552 + 0) c.ranges.first.fits c.requires.line c.requires.first).0

pub returns-clause-second : goal.returns-clause-second
returns-clause-second c = looked_second c.args.line.now c.args.first c.args.second c.ranges.first.fits c.ranges.second.fits c.requires.line c.requires.first c.requires.second
