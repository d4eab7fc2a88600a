use Rattle.ua_shell.proofs.Built.{served}
use Rattle.ua_shell.proofs.Generating.{generated_served}
use Rattle.ua_shell.proofs.OutputsExist.{bounds_asked, served_output}
use Rattle.ua_shell.proofs.laws.outputs.Goals as goal

pub returns : goal.returns
returns c = record {
  bounds = bounds_asked;
  read = λ b bytes script bounds few is. served_output c.replies.ensures.one c.replies.ensures.left b bounds script (served bytes script is few);
  generated = λ b n bounds. served_output c.replies.ensures.one c.replies.ensures.left b bounds _ (generated_served n);
}
