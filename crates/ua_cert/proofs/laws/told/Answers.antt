use Rattle.ua_cert.proofs.ReadingsTold.{text_told}
use Rattle.ua_cert.proofs.laws.told.Goals as goal

pub returns : goal.returns
returns c = text_told
