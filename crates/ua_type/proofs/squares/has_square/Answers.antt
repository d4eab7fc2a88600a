use Rattle.std.proofs.Common.{sym, subst}
use Rattle.std.specs.Prelude.{Contains, IsTrue, ◌↔◌}
use Rattle.ua_table.specs.Listings.{vectors_of}
use Rattle.ua_type.proofs.TrialLaws.{has_from}
use Rattle.ua_type.proofs.squares.has_square.Goals as goal

pub returns : goal.returns
returns c =
    let vs = vectors_of c.args.list.now in
    subst (λ r. IsTrue r ↔ Contains vs c.args.square) (sym c.is_some.ensures) (has_from c.find.result vs c.args.square c.find.ensures.found c.find.ensures.absent)
