use Rattle.std.proofs.Common.{◌≡◌, List, sym, subst, nat_eq}
use Rattle.std.specs.List.Sorted.{IsPermutation, IsStrictlySortedBy}
use Rattle.std.specs.Cmp.Lexicographic.{pointwise, slice_cmp}
use Rattle.std.specs.Ordering.{nat_cmp, ordering_then}
use Rattle.std.proofs.lemmas.Result.{IfOk-weaker}
use Rattle.std.proofs.lemmas.List.Sorted.{IsPermutation-map}
use Rattle.std.proofs.lemmas.Map.Keys.{IsDistinct-IsPermutation}
use Rattle.std.proofs.lemmas.Cmp.{nat_list_eq_equiv}
use Rattle.ua_part.specs.Partitions.{Partition, IsPart}
use Rattle.ua_lattice.specs.declared.ordering.Counted.{Counted}
use Rattle.ua_lattice.specs.Lattices.{by_blocks}
use Rattle.ua_lattice.specs.inner.Ordering.{IsCounted, partitions_of}
use Rattle.ua_table.proofs.Lists.{all_permutation}
use Rattle.ua_lattice.proofs.OrderLaws.{strictly_sorted, sorted_partitions}
use Rattle.ua_lattice.proofs.ordering.in_order.Goals as goal

-- the partitions before and after a sort
moved : (rows : List Partition) (list sorted : List Counted) → partitions_of list ≡ rows → IsPermutation list sorted → IsPermutation rows (partitions_of sorted)
moved rows list sorted is p = subst (λ (ps : List Partition). IsPermutation ps (partitions_of sorted)) is (IsPermutation-map (λ (c : Counted). c.leaders.items) list sorted p)

pub without_counts-requires : goal.without_counts-requires
without_counts-requires c =
    let rows = c.args.rows.now.items in
    let sorted = c.sort.new.self.items in
    all_permutation IsPart rows (partitions_of sorted) (moved rows c.in_ok-list.list.items sorted c.in_ok-list.ensures.partitions c.in_ok-sort.ensures.permutation) c.requires

pub returns : goal.returns
returns c =
    let rows = c.args.rows.now.items in
    let list = c.in_ok-list.list.items in
    let sorted = c.sort.new.self.items in
    let permutation = moved rows list sorted c.in_ok-list.ensures.partitions c.in_ok-sort.ensures.permutation in
    let counts = all_permutation IsCounted list sorted c.in_ok-sort.ensures.permutation c.in_ok-list.ensures.counts in
    let different = IsDistinct-IsPermutation (pointwise nat_eq) nat_list_eq_equiv.symm rows (partitions_of sorted) permutation c.with_counts.ensures.rows.different in
    let in_order =
    strictly_sorted (partitions_of sorted) different
    (sorted_partitions _ (λ a b ha hb i. ordering_then (nat_cmp (hb i) (ha i)) (slice_cmp nat_cmp a.leaders.items b.leaders.items)) sorted counts
    c.in_ok-sort.ensures.sorted) in
    IfOk-weaker c.without_counts.result _ _
    (λ parts is. record {
      permutation = subst (IsPermutation rows) (sym is) permutation;
      in_order = subst (IsStrictlySortedBy by_blocks) (sym is) in_order;
    })
    c.without_counts.ensures
