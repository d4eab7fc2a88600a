use Rattle.ua_flaws.proofs.SoundLaws as sound
use Rattle.ua_flaws.proofs.FlawlessLaws.{no_step_flaw, steps_again}
use Rattle.ua_flaws.proofs.laws.written.Goals as goal

pub returns : goal.returns
returns c = record {
  steps = sound.steps_written;
  term = λ a gens term steps some none. (sound.written a gens term steps some none).is_term;
  flawless = λ a gens term steps table are. no_step_flaw a table gens term steps are;
  read = λ a gens steps table are. steps_again a table gens 0 steps are;
}
