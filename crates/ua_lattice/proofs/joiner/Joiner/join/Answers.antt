use Rattle.std.proofs.Common.{◌≡◌, length, ap, arith}
use Rattle.ua_cong.proofs.Normal.{join-size}
use Rattle.ua_lattice.proofs.joiner.Joiner.join.Goals as goal

pub write_row-requires-clause-size : goal.write_row-requires-clause-size
write_row-requires-clause-size c =
    let row : length c.assign.new.self ≡ length c.args.row.now = ap length c.assign.ensures in
    let joined = join-size c.assign.new.self c.args.part.now c.unite_blocks.new.self (omega (arith, row, c.requires.row, c.requires.part)) c.unite_blocks.ensures in
    omega (arith, joined, row, c.requires.row, ap length c.as_mut_slice.ensures.value)

pub write_row-requires-clause-few : goal.write_row-requires-clause-few
write_row-requires-clause-few c =
    let row : length c.assign.new.self ≡ length c.args.row.now = ap length c.assign.ensures in
    let joined = join-size c.assign.new.self c.args.part.now c.unite_blocks.new.self (omega (arith, row, c.requires.row, c.requires.part)) c.unite_blocks.ensures in
    omega (arith, joined, row, c.requires.row, c.requires.part, c.requires.few)
