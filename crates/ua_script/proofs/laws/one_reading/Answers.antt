use Rattle.ua_script.proofs.BlockReadings.{one_block_at}
use Rattle.ua_script.proofs.ScriptReadings.{one_script}
use Rattle.ua_script.proofs.TermReadings.{one_term_at}
use Rattle.ua_script.proofs.laws.one_reading.Goals as goal

pub returns : goal.returns
returns c = record { script = λ bytes s t few. one_script bytes s t; block = λ v ts l r b c few. one_block_at v ts l r b c; term = one_term_at }
