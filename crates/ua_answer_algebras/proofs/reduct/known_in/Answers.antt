use Rattle.std.proofs.Common.{take}
use Rattle.ua_reply.specs.Checks.{all_in}
use Rattle.ua_reply.proofs.CheckLaws.{first_more}
use Rattle.ua_answer_algebras.specs.MakeCommand.{operation_in}
use Rattle.ua_answer_algebras.proofs.reduct.known_in.Goals as goal

pub loop-name-preserved : goal.loop-name-preserved
loop-name-preserved c =
    let k = c.args.known.now in
    let ws = c.args.names.now in
    let i = c.loop-name.name-index in
    let w = c.name-item.result in
    first_more (operation_in k) ws i w c.and-errors.result c.loop-name-test.true c.name-item.is (c.and-errors.ensures.first (all_in (operation_in k) (take i ws)) (operation_in k w) c.loop-name.invariant c.operation_in.ensures)
