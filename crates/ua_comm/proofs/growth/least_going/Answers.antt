use Rattle.std.proofs.Common.{◌≡◌, length, sym, subst}
use Rattle.std.specs.List.{AllByRecursion}
use Rattle.ua_table.specs.Algebras.{Vector}
use Rattle.ua_table.specs.Listings.{vectors_of}
use Rattle.ua_table.proofs.Lists.{all_weaker}
use Rattle.ua_matrix.specs.Matrices.{AreFour}
use Rattle.ua_comm.proofs.growth.least_going.Goals as goal

pub rows_of-requires : goal.rows_of-requires
rows_of-requires c = all_weaker (AreFour c.args.a.now.size) (λ (v : Vector). length v ≡ 4) (λ v four. four.width) (vectors_of c.args.list.now) c.requires

pub least_with-requires : goal.least_with-requires
least_with-requires c = subst (AllByRecursion (AreFour c.args.a.now.size)) (sym c.in_ok-rows.ensures) c.requires
