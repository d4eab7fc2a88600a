use Rattle.std.proofs.Common.{◌/◌, ◌<◌, [], arith}
use Rattle.std.specs.List.{AllByRecursion}
use Rattle.ua_table.proofs.Lists.{all_set}
use Rattle.ua_rows.proofs.LineLaws.{all_or}
use Rattle.ua_lanes.proofs.LineLaws.{across_here, across_others}
use Rattle.ua_lanes.proofs.lines.set_value.Goals as goal

pub returns-clause-bytes : goal.returns-clause-bytes
returns-clause-bytes g c =
    let line = c.args.line.now in
    all_set (AllByRecursion (λ x. x < 256)) line (c.args.y / 16) c.set_entry.new.column (c.set_entry.ensures.low 256 (omega arith) (all_or (AllByRecursion (λ x. x < 256)) line (c.args.y / 16) [] tt c.requires.bytes)) c.requires.bytes

pub returns-clause-value : goal.returns-clause-value
returns-clause-value g c = across_here c.args.line.now c.set_entry.new.column c.args.y (omega arith) c.args.value c.set_entry.ensures.lane

pub returns-clause-others : goal.returns-clause-others
returns-clause-others g c k apart = across_others c.args.line.now c.set_entry.new.column c.args.y (omega arith) c.set_entry.ensures.others k apart
