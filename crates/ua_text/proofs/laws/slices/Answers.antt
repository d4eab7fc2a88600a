use Rattle.ua_text.proofs.SliceLaws.{tokens_are_slices}
use Rattle.ua_text.proofs.laws.slices.Goals as goal

pub returns : goal.returns
returns c = tokens_are_slices
