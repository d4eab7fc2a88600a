use Rattle.std.proofs.Common.{◌≤◌, length, arith}
use Rattle.ua_table.specs.declared.limits.TheConstants.{SCRIPT}
use Rattle.ua_shell.proofs.Built.{served}
use Rattle.ua_shell.proofs.asking.read_script.Goals as goal

pub returns-in-Ok-parse-clause-served : goal.returns-in-Ok-parse-clause-served
returns-in-Ok-parse-clause-served g c =
    let few : length c.in-Ok.bytes.items ≤ SCRIPT = omega (arith, c.in-Ok.ensures.within) in
    let is = rw c.deref.ensures.value at c.in-Ok-parse.ensures.script in
    served c.in-Ok.bytes.items c.in-Ok-parse.script is few
