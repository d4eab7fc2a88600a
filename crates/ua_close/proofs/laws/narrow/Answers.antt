use Rattle.std.proofs.Common.{◌^◌, inl, ⊎_elim, length}
use Rattle.std.proofs.lemmas.Bool.{cases_lt}
use Rattle.ua_table.specs.Algebras.{arities}
use Rattle.ua_table.specs.Numbering.{records}
use Rattle.ua_close.proofs.laws.narrow.Goals as goal

pub returns : goal.returns
returns c = λ p gens b fine. ⊎_elim (λ low. low) (λ high. absurd (fine (inl high))) (cases_lt (records (arities p) (length gens) b) (2 ^ 63))
