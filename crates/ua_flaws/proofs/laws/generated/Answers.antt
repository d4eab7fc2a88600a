use Rattle.ua_flaws.specs.Flaws.{outside_lines}
use Rattle.ua_flaws.proofs.PassLaws.{no_line}
use Rattle.ua_flaws.proofs.SoundLaws.{closed_holds, outside_holds}
use Rattle.ua_flaws.proofs.FlawlessLaws.{no_vector_flaw, no_closed_flaw, no_outside_flaw}
use Rattle.ua_flaws.proofs.laws.generated.Goals as goal

pub returns : goal.returns
returns c = record {
  all = closed_holds;
  outside = outside_holds;
  vectors = no_vector_flaw;
  exact = no_closed_flaw;
  lacking = λ a width gens rows target inc exact absent. no_line (outside_lines a width gens rows target) (no_outside_flaw a width gens rows target inc exact absent);
}
