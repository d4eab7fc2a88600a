use Rattle.ua_jobs.proofs.BatchLaws.{all_once}
use Rattle.ua_jobs.proofs.gathering.serve_rest.Goals as goal

pub returns-clause-once : goal.returns-clause-once
returns-clause-once g c = all_once _ c.args.first c.args.kept.now c.serve_with.result c.requires.ready c.requires.numbers c.serve_with.ensures.harvest
