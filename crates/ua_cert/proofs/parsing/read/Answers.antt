use Rattle.serde_json.specs.View.{view}
use Rattle.ua_cert.proofs.LengthLaws.{read_fewer}
use Rattle.ua_cert.proofs.parsing.read.Goals as goal

pub returns-clause-fewer : goal.returns-clause-fewer
returns-clause-fewer c = read_fewer c.args.bytes.now (view c.in_ok-value.value) c.in_ok-cert.cert c.in_ok-value.ensures.ok.1 c.in_ok-cert.ensures
