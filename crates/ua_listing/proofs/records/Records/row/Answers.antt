use Rattle.std.proofs.Common.{◌≡◌, List, Some, subst, arith}
use Rattle.std.specs.Prelude.{slice_get}
use Rattle.ua_table.specs.Algebras.{Vector}
use Rattle.ua_listing.proofs.RecordsLaws.{rows_inside, length_inside}
use Rattle.ua_listing.proofs.records.Records.row.Goals as goal

pub row-requires : goal.row-requires
row-requires c = let n = length_inside c.self.inside.rows.items c.self.inside.origins.items c.args.self.now c.self.invariant c.self.view_is in omega (arith, n, c.requires)

pub returns : goal.returns
returns c = subst (λ (vs : List Vector). slice_get vs c.args.i ≡ Some c.row.result.now) (rows_inside c.self.inside.rows.items c.self.inside.origins.items c.args.self.now c.self.invariant c.self.view_is) c.row.ensures.row
