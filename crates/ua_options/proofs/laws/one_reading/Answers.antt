use Rattle.ua_options.proofs.OptionValues.{asked_once}
use Rattle.ua_options.proofs.laws.one_reading.Goals as goal

pub returns : goal.returns
returns c = asked_once
