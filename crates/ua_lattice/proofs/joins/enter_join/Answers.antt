use Rattle.std.proofs.Common.{◌≡◌, [], sym, subst}
use Rattle.std.specs.Prelude.{slice_index_or}
use Rattle.std.proofs.lemmas.Option.{get_or_from_slice_get}
use Rattle.std.proofs.lemmas.List.Elements.{Contains-get_or}
use Rattle.ua_part.specs.Partitions.{Partition, IsPartition, LiesBelow, IsJoin}
use Rattle.ua_lattice.proofs.FoundLaws.{join_with_lower, join_there, join_entered}
use Rattle.ua_lattice.proofs.joins.enter_join.Goals as goal

pub returns-then-lies_below-clause-entered : goal.returns-then-lies_below-clause-entered
returns-then-lies_below-clause-entered c =
    let old = c.args.rows.now.items in
    let p = c.args.part.now in
    let q = slice_index_or old c.args.i [] in
    let row : q ≡ c.row-row.result.now = get_or_from_slice_get old c.args.i c.row-row.result.now [] c.row-row.ensures.row in
    let below : LiesBelow p q = subst (LiesBelow p) (sym row) (c.lies_below.ensures.0 c.if-lies_below.true) in
    join_there old q p q (Contains-get_or old c.args.i [] c.requires.named) (join_with_lower p q c.requires.partition below)

pub join-requires-clause-partition : goal.join-requires-clause-partition
join-requires-clause-partition c =
    subst IsPartition (get_or_from_slice_get c.args.rows.now.items c.args.i c.row-row.result.now [] c.row-row.ensures.row) c.requires.partition

pub returns-clause-entered : goal.returns-clause-entered
returns-clause-entered c =
    let old = c.args.rows.now.items in
    let p = c.args.part.now in
    let q = slice_index_or old c.args.i [] in
    let join = c.as_slice.result.now in
    let row : q ≡ c.row-row.result.now = get_or_from_slice_get old c.args.i c.row-row.result.now [] c.row-row.ensures.row in
    let is : IsJoin q p join = subst (λ (r : Partition). IsJoin r p join) (sym row) (subst (IsJoin c.row-row.result.now p) (sym c.as_slice.ensures.value) c.join.ensures.join) in
    join_entered old q p join c.enter.new.self.items is c.in_ok-enter.ensures.entered
