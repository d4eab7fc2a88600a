use Rattle.std.proofs.Common.{[], ◌∷◌, sym, subst}
use Rattle.std.specs.Prelude.{Contains, IsTrue, ◌↔◌}
use Rattle.ua_table.specs.Algebras.{Vector}
use Rattle.ua_table.specs.Listings.{vectors_of}
use Rattle.ua_type.proofs.TrialLaws.{has_from}
use Rattle.ua_type.proofs.pairs.has.Goals as goal

pub returns : goal.returns
returns c =
    let vs = vectors_of c.args.list.now in
    let v : Vector = c.args.pair.0 ∷ c.args.pair.1 ∷ [] in
    subst (λ r. IsTrue r ↔ Contains vs v) (sym c.is_some.ensures) (has_from c.find.result vs v c.find.ensures.found c.find.ensures.absent)
