use Rattle.std.proofs.Common.{◌≡◌, [], sym, subst}
use Rattle.std.specs.Prelude.{Contains}
use Rattle.std.proofs.lemmas.Bool.{iff_false}
use Rattle.std.proofs.lemmas.Option.{get_or_from_slice_get, slice_get_within}
use Rattle.std.proofs.lemmas.List.Elements.{Contains-get_or}
use Rattle.ua_part.specs.Partitions.{Partition, IsPartition, LiesBelow, IsJoin}
use Rattle.ua_lattice.specs.Lattices.{at}
use Rattle.ua_lattice.proofs.CoverLaws.{joins_equal, none_pushed, one_pushed}
use Rattle.ua_lattice.proofs.covers.push_join.Goals as goal

pub returns-then-lies_below-clause-pushed : goal.returns-then-lies_below-clause-pushed
returns-then-lies_below-clause-pushed c =
    let rows = c.args.rows.now.items in
    let row : at rows c.args.i ≡ c.row-row.result.now = get_or_from_slice_get rows c.args.i c.row-row.result.now [] c.row-row.ensures.row in
    none_pushed rows c.args.i c.args.generator.now c.args.places.now.items (subst (LiesBelow c.args.generator.now) (sym row) (c.lies_below.ensures.0 c.if-lies_below.true))

pub join-requires-clause-partition : goal.join-requires-clause-partition
join-requires-clause-partition c =
    subst IsPartition (get_or_from_slice_get c.args.rows.now.items c.args.i c.row-row.result.now [] c.row-row.ensures.row) c.requires.partition

pub unreachable-requires : goal.unreachable-requires
unreachable-requires c =
    let rows = c.args.rows.now.items in
    let p = c.args.generator.now in
    let q = at rows c.args.i in
    let join = c.as_slice.result.now in
    let row : q ≡ c.row-row.result.now = get_or_from_slice_get rows c.args.i c.row-row.result.now [] c.row-row.ensures.row in
    let is : IsJoin q p join = subst (λ (r : Partition). IsJoin r p join) (sym row) (subst (IsJoin c.row-row.result.now p) (sym c.as_slice.ensures.value) c.join.ensures.join) in
    let there = c.requires.joins q (Contains-get_or rows c.args.i [] c.requires.named) in
    c.in_default.ensures.absent (subst (Contains rows) (joins_equal q p there.0 join there.2 is) there.1)

pub returns-clause-pushed : goal.returns-clause-pushed
returns-clause-pushed c =
    let rows = c.args.rows.now.items in
    let p = c.args.generator.now in
    let q = at rows c.args.i in
    let join = c.as_slice.result.now in
    let place = c.in-Some.place in
    let row : q ≡ c.row-row.result.now = get_or_from_slice_get rows c.args.i c.row-row.result.now [] c.row-row.ensures.row in
    let is : IsJoin q p join = subst (λ (r : Partition). IsJoin r p join) (sym row) (subst (IsJoin c.row-row.result.now p) (sym c.as_slice.ensures.value) c.join.ensures.join) in
    let found = c.in-Some.ensures.found in
    let apart : ¬ LiesBelow p q = (λ below. iff_false c.lies_below.ensures c.if-lies_below.false (subst (LiesBelow p) row below)) in
    one_pushed rows c.args.i p c.args.places.now.items c.push.new.self.items place apart (slice_get_within rows place join found) (subst (IsJoin q p) (sym (get_or_from_slice_get rows place join [] found)) is) c.in_ok-push.ensures.items
