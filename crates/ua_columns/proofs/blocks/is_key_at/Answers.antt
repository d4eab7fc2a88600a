use Rattle.std.proofs.Common.{arith}
use Rattle.ua_columns.proofs.blocks.is_key_at.Goals as goal

pub returns : goal.returns
returns c t = (c.args.i, c.requires.key, λ j less. c.is_at.ensures t j (omega (arith, less)))
