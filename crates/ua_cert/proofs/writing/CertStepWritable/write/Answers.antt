use Rattle.std.proofs.Common.{subst}
use Rattle.std.specs.List.{AllByRecursion}
use Rattle.ua_cert.specs.Reading as reading
use Rattle.ua_cert.specs.Writing as writing
use Rattle.ua_cert.proofs.WriteLaws.{Returns, step_back}
use Rattle.ua_cert.proofs.writing.CertStepWritable.write.Goals as goal

pub returns-clause-read_back : goal.returns-clause-read_back
returns-clause-read_back c = step_back c.args.self.now (subst (AllByRecursion (Returns reading.number_of writing.number)) c.as_slice.ensures c.in_ok-add_all.ensures.read_back)
