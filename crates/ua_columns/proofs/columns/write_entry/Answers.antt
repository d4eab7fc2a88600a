use Rattle.std.proofs.Common.{◌<◌, []}
use Rattle.std.specs.List.{AllByRecursion}
use Rattle.ua_table.proofs.Lists.{all_set}
use Rattle.ua_rows.proofs.LineLaws.{all_or}
use Rattle.ua_columns.proofs.columns.write_entry.Goals as goal

pub returns-clause-low : goal.returns-clause-low
returns-clause-low c n less all =
    all_set (AllByRecursion (λ x. x < n)) c.args.tile.now c.args.c c.set_entry.new.column (c.set_entry.ensures.low n less (all_or (AllByRecursion (λ x. x < n)) c.args.tile.now c.args.c [] tt all)) all
