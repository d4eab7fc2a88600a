use Rattle.ua_script.proofs.Migration.{well_formed_later}
use Rattle.ua_script.proofs.migrating.migrate.Goals as goal

pub returns-clause-formed : goal.returns-clause-formed
returns-clause-formed c = λ h. well_formed_later c.args.script h
