use Rattle.std.proofs.Common.{Err}
use Rattle.std.proofs.lemmas.Result.{IfOk-weaker}
use Rattle.ua_answer_algebras.proofs.check.checked.Goals as goal

pub returns-in-Err : goal.returns-in-Err
returns-in-Err c =
    IfOk-weaker c.fault_line.result _ _
    (λ v text. record { answer = Err c.in-Err.fault; permitted = c.in-Err.ensures.told; told = text })
    (c.fault_line.ensures c.args.a.now)
