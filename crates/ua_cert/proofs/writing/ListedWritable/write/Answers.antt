use Rattle.std.proofs.Common.{subst}
use Rattle.std.specs.List.{AllByRecursion}
use Rattle.ua_cert.proofs.WriteLaws.{Returns, list_back}
use Rattle.ua_cert.proofs.writing.ListedWritable.write.Goals as goal

pub returns-clause-read_back : goal.returns-clause-read_back
returns-clause-read_back g c = list_back g.T.Readable.reads g.T.Writable.writes c.args.self.now (subst (AllByRecursion (Returns g.T.Readable.reads g.T.Writable.writes)) c.as_slice-items.ensures c.in_ok-add_all.ensures.read_back)
